-- The event by which a wait takes the lock: its seat is not in the list, so it is appended, and start_wait begins.
use Rattle.std.proofs.Common.{◌≡◌, ◌≢◌, ℕ, suc, true, false, ◌+◌, ◌-◌, ◌≤◌, [], ◌∷◌, ◌++◌, refl, sym, ap, ◌∙◌, inl, inr, arith}
use Rattle.std.proofs.lemmas.Bool.{cases_eq, eq-eqb, ne_eqb}
use Rattle.lfm_protocol.specs.declared.answers.Call.TheVariants.{StartWait}
use Rattle.lfm_protocol.specs.Turns.{is_open}
use Rattle.lfm_laws.specs.steady.Numbered.{changed}
use Rattle.lfm_protocol.specs.Seats.{IsSeat}
use Rattle.lfm_protocol.specs.Step.{begin}
use Rattle.lfm_laws.proofs.steady.frames.Sums.{changed_same, changed_other}
use Rattle.lfm_condvar_laws.specs.Condvars.{Condvar, locking_to_wait, starting, CondvarCore, put_stage, put_holder, is_listed}
use Rattle.lfm_condvar_laws.specs.Events.{enlisted, enlists, takes_lock}
use Rattle.lfm_condvar_laws.proofs.Invariant.{CondvarGhost, CoreFits, claims_told}
use Rattle.lfm_condvar_laws.proofs.Outcomes.{CondvarOutcome, append_none, OneCondvar, condvar_stays}
use Rattle.lfm_condvar_laws.proofs.events.MutexEvents.{not_pending, stays}
use Rattle.lfm_condvar_laws.proofs.Tickets.{waiters_of, waiters_agree, waiter_with, one_more, not_listed}
use Rattle.lfm_condvar_laws.proofs.mutex.MutexMoves.{begin_moves, seat_after}
use Rattle.lfm_condvar_laws.proofs.Frames.{CondvarAfter, fits_after}
use Rattle.lfm_condvar_laws.proofs.mutex.OwnSeat.{begin_wait_at}

-- a wait that can take the lock does not find its seat in the list
pub wait_is_new : (k : CondvarCore) (g : CondvarGhost) (s v : ℕ) → CoreFits k g → k.stage s ≡ locking_to_wait v
    → (k.condvar v).holder ≡ 0 → is_listed s (k.condvar v).waiters ≡ false
wait_is_new k g s v fits stage free =
    let here = fits.condvars v in
    let unclaimed = here.free free in
    rw here.waiters (not_listed (g.given v) (k.condvar v).sent ((k.condvar v).added - (k.condvar v).sent) s
    (λ ticket above within same.
    let pending = here.pending ticket (omega (arith, unclaimed, above)) (omega (arith, within, here.order)) in
    not_pending k s v ticket (locking_to_wait v) stage refl (rw same at pending)))

-- The ghost

-- condvar v gives the ticket to seat s
abbrev giving : CondvarGhost → ℕ → ℕ → ℕ → ℕ → ℕ → ℕ
giving g v ticket s = changed g.given v (changed (g.given v) ticket s)

given_now : (g : CondvarGhost) (v ticket s : ℕ) → giving g v ticket s v ticket ≡ s
given_now g v ticket s =
    ap (λ f. f ticket) (changed_same g.given v (changed (g.given v) ticket s)) ∙ changed_same (g.given v) ticket s

given_before : (g : CondvarGhost) (v ticket s w y : ℕ) → (w ≡ v → y ≢ ticket) → giving g v ticket s w y ≡ g.given w y
given_before g v ticket s w y before =
    elim (cases_eq w v) [
      | inl same ↦
          rw same (ap (λ f. f y) (changed_same g.given v (changed (g.given v) ticket s)) ∙ changed_other (g.given v) ticket y s
          (before same))
      | inr other ↦ ap (λ f. f y) (changed_other g.given v w (changed (g.given v) ticket s) other)
    ]

-- The event

appended_condvar : (k l : CondvarCore) (g h : CondvarGhost) (s v : ℕ) → CoreFits k g
    → l.condvar v ≡ record (enlisted (k.condvar v) s) { holder = s }
    → l.stage s ≡ starting v ((k.condvar v).added + 1) → IsSeat k.mutex.seats s
    → ((n : ℕ) → n ≤ (k.condvar v).added → h.given v n ≡ g.given v n)
    → h.given v ((k.condvar v).added + 1) ≡ s → (k.condvar v).sent ≤ h.claimed v → CondvarAfter k l g h v
appended_condvar k l g h s v fits at own is early now counted =
    let x = k.condvar v in
    let here = fits.condvars v in
    let n = x.added - x.sent in
    let size : x.added + 1 - x.sent ≡ suc n = omega (arith, here.order) in
    let last : x.added + 1 ≡ x.sent + n + 1 = omega (arith, here.order) in
    let before = waiters_agree (g.given v) (h.given v) x.sent n
    (λ ticket within. early ticket (omega (arith, within, here.order))) in
    let waiters : x.waiters ++ waiter_with s (x.added + 1) ∷ [] ≡ waiters_of (h.given v) x.sent (x.added + 1 - x.sent) =
    sym (ap (waiters_of (h.given v) x.sent) size ∙ one_more (h.given v) x.sent n s (x.added + 1)
    (ap (h.given v) (sym last) ∙ now) last
    ∙ ap (λ those. those ++ waiter_with s (x.added + 1) ∷ []) (before ∙ sym here.waiters)) in
    record {
      order = rw at (omega (arith, here.order));
      counted = rw at counted;
      waiters = rw at waiters;
      free = rw at (λ none. absurd (omega (arith, none, is.above)));
      late = λ ticket late within.
          let most : ticket ≤ x.added + 1 = rw at at within in
          let same : ticket ≡ x.added + 1 = omega (arith, late, most) in
          rw (same, now) (inl own);
    }

appended_outcome : (k : CondvarCore) (g : CondvarGhost) (s v : ℕ) → CoreFits k g → k.stage s ≡ locking_to_wait v
    → (k.condvar v).holder ≡ 0
    → (f : ℕ → Condvar) → f v ≡ record (enlisted (k.condvar v) s) { holder = s } → ((w : ℕ) → w ≢ v → f w ≡ k.condvar w)
    → CondvarOutcome (put_stage (record { mutex = (begin k.mutex s StartWait).core; condvar = f; stage = k.stage }) s
    (starting v ((k.condvar v).added + 1))) g []
appended_outcome k g s v fits stage free f at_v at_others =
    let d = (begin k.mutex s StartWait).core in
    let x = k.condvar v in
    let ticket = x.added + 1 in
    let y : Condvar = record (enlisted x s) { holder = s } in
    let l : CondvarCore = put_stage (record { mutex = d; condvar = f; stage = k.stage }) s (starting v ticket) in
    let opens : is_open (begin k.mutex s StartWait).turn ≡ true = rw stage at (fits.stages s) in
    let begun = begin_wait_at k.mutex s opens in
    let m = begin_moves k.mutex g.mutex s StartWait fits.mutex in
    let h : CondvarGhost = record { mutex = m.to; given = giving g v ticket s; claimed = g.claimed } in
    let one : OneCondvar k l d s v y (starting v ticket) =
    record {
      mutex = refl;
      here = at_v;
      elsewhere = at_others;
      own = changed_same k.stage s (starting v ticket);
      others = λ t other. changed_other k.stage s t (starting v ticket) other;
    } in
    let here = fits.condvars v in
    let unclaimed = here.free free in
    let early : (w n : ℕ) → n ≤ (k.condvar w).added → giving g v ticket s w n ≡ g.given w n =
    λ w n within. given_before g v ticket s w n (λ same e. let size = ap (λ u. (k.condvar u).added) same in omega
    (arith, within, e, size)) in
    record {
      to = h;
      fits = fits_after k l g h s fits m.fits (record {
        leaves = m.leaves;
        stage = one.others;
        locked = λ t w other some holds.
            elim (cases_eq w v) [
              | inl same ↦ let none = ap (λ u. (k.condvar u).holder) same in absurd (omega (arith, none, free, holds, some))
              | inr elsewhere ↦ record { condvar = one.elsewhere w elsewhere; claimed = refl }
            ];
        given = early;
        added = λ w.
            elim (cases_eq w v) [
              | inl same ↦ let size : (l.condvar w).added ≡ (k.condvar w).added + 1 = rw (same, one.here) refl in omega
                  (arith, size)
              | inr elsewhere ↦ let size = ap (λ u. u.added) (one.elsewhere w elsewhere) in omega (arith, size)
            ];
        claimed = λ w. omega arith;
        starting_waits = λ t w n stage word. m.waits t word;
        receiving_waits = λ t w n stage unclaimed word. m.waits t word;
        sent = λ t w n other stage before claimed word. before.sent claimed (m.waited t (inl other) word);
      }) (record {
        stage = rw one.own (record {
          locks = record { is = seat_after k.mutex d s s m.leaves begun.is; holds = rw one.here refl };
          given = given_now g v ticket s;
          last = rw one.here refl;
          pending = rw one.here (omega (arith, here.order));
          unclaimed = rw one.here unclaimed;
          at = inl (rw begun.at refl);
        });
        pending = λ w n unclaimed pending. absurd (not_pending k s w n (locking_to_wait v) stage refl pending);
      }) (λ w.
          elim (cases_eq w v) [
            | inl same ↦ rw same (appended_condvar k l g h s v fits one.here one.own begun.is (early v)
                (given_now g v ticket s) here.counted)
            | inr elsewhere ↦ condvar_stays k l g h w (fits.condvars w)
                (one.elsewhere w elsewhere) refl (changed_other g.given v w (changed (g.given v) ticket s) elsewhere)
          ]);
      history = λ w.
          waiters_agree (g.given w) (h.given w) 0 (g.claimed w) (λ n within.
          given_before g v ticket s w n (λ same e.
          let claims = ap g.claimed same in
          omega (arith, within, e, claims, unclaimed, here.order)))
          ∙ append_none (claims_told g w);
    }

-- Taking the lock

-- the condvar after seat s has taken its lock
abbrev taken : CondvarCore → ℕ → ℕ → Condvar
taken k s v = record (k.condvar v) { holder = s }

pub at_locking_to_wait : (k : CondvarCore) (g : CondvarGhost) (s v : ℕ) → CoreFits k g → k.stage s ≡ locking_to_wait v
    → CondvarOutcome (takes_lock k v (enlists (put_holder k v s) s v)) g []
at_locking_to_wait k g s v fits stage =
    elim (cases_eq (k.condvar v).holder 0) [
      | inr held ↦ rw (ne_eqb (k.condvar v).holder 0 held) (stays k g fits)
      | inl free ↦
          let new = wait_is_new k g s v fits stage free in
          let f = changed (changed k.condvar v (taken k s v)) v (enlisted (taken k s v) s) in
          rw (eq-eqb (k.condvar v).holder 0 free, changed_same k.condvar v (taken k s v), new)
          (appended_outcome k g s v fits stage free f (changed_same (changed k.condvar v (taken k s v)) v
          (enlisted (taken k s v) s))
          (λ w other. changed_other (changed k.condvar v (taken k s v)) v w (enlisted (taken k s v) s) other
          ∙ changed_other k.condvar v w (taken k s v) other))
    ]
