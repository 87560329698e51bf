-- The claim of a send: it finds its target waiting, and is the only claim with the target's ticket.
use Rattle.std.proofs.Common.{◌≡◌, ◌≢◌, ◌≤◌, ℕ, suc, Bool, ◌+◌, [], ◌∷◌, ◌++◌, refl, sym, ap, ◌∙◌, inl, inr, arith}
use Rattle.std.proofs.lemmas.Bool.{cases_eq, eq-eqb, ne_eqb}
use Rattle.lfm_words.specs.declared.wakes.Wake.TheVariants.{Waiting, Claimed}
use Rattle.lfm_laws.specs.steady.Numbered.{changed}
use Rattle.lfm_protocol.specs.Seats.{wake}
use Rattle.lfm_protocol.specs.Step.{made}
use Rattle.lfm_laws.proofs.steady.StepsKept.{made_keeps}
use Rattle.lfm_laws.proofs.steady.frames.Sums.{changed_same, changed_other}
use Rattle.lfm_condvar_laws.specs.Condvars.{Waiter, starting, receiving, claiming, sending, CondvarCore, point_of, put_stage, put_mutex}
use Rattle.lfm_condvar_laws.specs.Claims.{Claim, claim_of, claimed_at, claims_on}
use Rattle.lfm_condvar_laws.specs.Events.{claims_waiter}
use Rattle.lfm_condvar_laws.proofs.Invariant.{CondvarGhost, ReceivingFits, ClaimingFits, CoreFits, claims_told}
use Rattle.lfm_condvar_laws.proofs.Outcomes.{CondvarOutcome, append_none}
use Rattle.lfm_condvar_laws.proofs.events.MutexEvents.{not_pending}
use Rattle.lfm_condvar_laws.proofs.Tickets.{waiters_of, waiter_with, one_more}
use Rattle.lfm_condvar_laws.proofs.mutex.MutexMoves.{made_leaves, step_is_made, seat_after}
use Rattle.lfm_condvar_laws.proofs.Frames.{fits_after}
use Rattle.lfm_condvar_laws.proofs.events.LockEvents.{target_waits}
use Rattle.lfm_condvar_laws.proofs.mutex.OwnSeat.{claim_turn, claim_at}
use Rattle.lfm_condvar_laws.proofs.mutex.WakeWords.{waiting_is_seat, others_stay_waiting, claimed_word, has_waited}

-- The target

-- the target of the send that has the lock waits, with the oldest ticket
pub record Target (k : CondvarCore) (v : ℕ) (oldest : Waiter) : Type 0 where
  pub stage : k.stage oldest.seat ≡ receiving v ((k.condvar v).sent + 1)
  pub word : wake k.mutex.wakes oldest.seat ≡ Waiting

pub target_of : (k : CondvarCore) (g : CondvarGhost) (s v : ℕ) (all : Bool) (oldest : Waiter) → CoreFits k g
    → k.stage s ≡ claiming v all oldest → ClaimingFits k g s v oldest → Target k v oldest
target_of k g s v all oldest fits stage own =
    let ticket = (k.condvar v).sent + 1 in
    let pending = (fits.condvars v).pending ticket (omega (arith, own.unclaimed)) (omega (arith, own.pending)) in
    let waits = target_waits k g s v ticket (g.given v ticket) (claiming v all oldest) fits
    (inr own.locks.holds) stage refl pending in
    record { stage = ap k.stage own.seat ∙ waits.0; word = ap (wake k.mutex.wakes) own.seat ∙ waits.1 }

-- The claims of the ghost

-- the claim of this waiter by a wake of condvar v
abbrev claim_with : ℕ → Waiter → Claim
claim_with v x = record { condvar = v; seat = x.seat; ticket = x.ticket }

claimed_here : (v : ℕ) (x : Waiter) → claims_on v (claim_with v x ∷ []) ≡ waiter_with x.seat x.ticket ∷ []
claimed_here v x = rw (eq-eqb v v refl) refl

claimed_elsewhere : (v w : ℕ) (x : Waiter) → w ≢ v → claims_on w (claim_with v x ∷ []) ≡ []
claimed_elsewhere v w x other = rw (ne_eqb v w (λ e. other (sym e))) refl

-- After the claim, its target does not wait

target_wakes : (k : CondvarCore) (g : CondvarGhost) (s v t w n : ℕ) (oldest : Waiter) → CoreFits k g → ClaimingFits k g s v oldest
    → Target k v oldest → ReceivingFits k g t w n → w ≡ v → n ≡ (k.condvar v).sent + 1 → wake (made k.mutex s).core.wakes t ≢ Waiting
target_wakes k g s v t w n oldest fits own target before condvar ticket word =
    let here : t ≡ oldest.seat = sym before.given ∙ ap (λ u. g.given u n) condvar ∙ ap (g.given v) ticket ∙ sym own.seat in
    let is = waiting_is_seat k.mutex g.mutex oldest.seat fits.mutex target.word in
    let claimed = claimed_word k.mutex g.mutex s oldest.seat own.at target.word is fits.mutex in
    let clash : Claimed ≡ Waiting = sym claimed ∙ ap (wake (made k.mutex s).core.wakes) (sym here) ∙ word in
    cc

-- seats that were claimed before do not wait either
claimed_wakes : (k : CondvarCore) (g : CondvarGhost) (s v t w n : ℕ) (oldest : Waiter) → CoreFits k g → ClaimingFits k g s v oldest
    → Target k v oldest → ReceivingFits k g t w n → t ≢ s → n ≤ changed g.claimed v ((k.condvar v).sent + 1) w
    → wake (made k.mutex s).core.wakes t ≢ Waiting
claimed_wakes k g s v t w n oldest fits own target before other within word =
    let sent = (k.condvar v).sent in
    elim (cases_eq w v) [
      | inr elsewhere ↦
          let same = changed_other g.claimed v w (sent + 1) elsewhere in
          before.sent (omega (arith, within, same)) (has_waited k.mutex s t (inl other) word)
      | inl same ↦
          let now : changed g.claimed v (sent + 1) w ≡ sent + 1 = ap (changed g.claimed v (sent + 1)) same
          ∙ changed_same g.claimed v (sent + 1) in
          let count : g.claimed w ≡ sent = ap g.claimed same ∙ own.unclaimed in
          elim (cases_eq n (sent + 1)) [
            | inl last ↦ target_wakes k g s v t w n oldest fits own target before same last word
            | inr earlier ↦ before.sent (omega (arith, within, now, count, earlier)) (has_waited k.mutex s t (inl other) word)
          ]
    ]

-- The event

claimed_outcome : (k : CondvarCore) (g : CondvarGhost) (s v : ℕ) (all : Bool) (oldest : Waiter) → CoreFits k g
    → k.stage s ≡ claiming v all oldest → ClaimingFits k g s v oldest
    → CondvarOutcome (put_stage (put_mutex k (made k.mutex s).core) s (sending v all oldest)) g (claim_with v oldest ∷ [])
claimed_outcome k g s v all oldest fits stage own =
    let d = (made k.mutex s).core in
    let x = k.condvar v in
    let l : CondvarCore = put_stage (put_mutex k d) s (sending v all oldest) in
    let target = target_of k g s v all oldest fits stage own in
    let kept = made_keeps k.mutex g.mutex s own.locks.is fits.mutex in
    let leaves = made_leaves k.mutex s own.locks.is in
    let claimed : ℕ → ℕ = changed g.claimed v (x.sent + 1) in
    let h : CondvarGhost = record { mutex = kept.to; given = g.given; claimed = claimed } in
    let now : claimed v ≡ x.sent + 1 = changed_same g.claimed v (x.sent + 1) in
    let own_stage : l.stage s ≡ sending v all oldest = changed_same k.stage s (sending v all oldest) in
    record {
      to = h;
      fits = fits_after k l g h s fits kept.fits (record {
        leaves = leaves;
        stage = λ t other. changed_other k.stage s t (sending v all oldest) other;
        locked = λ t w other some holds.
            elim (cases_eq w v) [
              | inl same ↦ absurd (other (sym holds ∙ ap (λ u. (k.condvar u).holder) same ∙ own.locks.holds))
              | inr elsewhere ↦ record { condvar = refl; claimed = changed_other g.claimed v w (x.sent + 1) elsewhere }
            ];
        given = λ w n within. refl;
        added = λ w. omega arith;
        claimed = λ w.
            elim (cases_eq w v) [
              | inl same ↦ let before = ap g.claimed same in let after : claimed w ≡ x.sent + 1 = ap claimed same ∙ now in omega
                  (arith, before, after, own.unclaimed)
              | inr elsewhere ↦ let after = changed_other g.claimed v w (x.sent + 1) elsewhere in omega (arith, after)
            ];
        starting_waits = λ t w n stage_now word.
            others_stay_waiting k.mutex s t oldest.seat own.at target.word (λ same.
            let clash : starting w n ≡ receiving v (x.sent + 1) = sym stage_now ∙ ap k.stage same ∙ target.stage in cc) word;
        receiving_waits = λ t w n stage_now unclaimed word.
            others_stay_waiting k.mutex s t oldest.seat own.at target.word (λ same.
            let known : receiving w n ≡ receiving v (x.sent + 1) = sym stage_now ∙ ap k.stage same ∙ target.stage in
            let condvar : w ≡ v = cc in
            let number : n ≡ x.sent + 1 = cc in
            let after : claimed w ≡ x.sent + 1 = ap claimed condvar ∙ now in
            omega (arith, after, number, unclaimed)) word;
        sent = λ t w n other does before within word.
            claimed_wakes k g s v t w n oldest fits own target before other within word;
      }) (record {
        stage = rw own_stage (record {
          locks = record { is = seat_after k.mutex d s s leaves own.locks.is; holds = own.locks.holds };
          claimed = now;
          pending = own.pending;
          at = rw (claim_at k.mutex s oldest.seat own.locks.is own.at target.word) refl;
        });
        pending = λ w n unclaimed pending. absurd (not_pending k s w n (claiming v all oldest) stage refl pending);
      }) (λ w.
          let here = fits.condvars w in
          record {
            order = here.order;
            counted =
                elim (cases_eq w v) [
                  | inl same ↦
                      let after : claimed w ≡ x.sent + 1 = ap claimed same ∙ now in
                      let sent = ap (λ u. (k.condvar u).sent) same in
                      omega (arith, after, sent)
                  | inr elsewhere ↦ let after = changed_other g.claimed v w (x.sent + 1) elsewhere in omega
                      (arith, after, here.counted)
                ];
            waiters = here.waiters;
            free = λ none.
                elim (cases_eq w v) [
                  | inl same ↦ let holder = ap (λ u. (k.condvar u).holder) same in absurd
                      (omega (arith, none, holder, own.locks.holds, own.locks.is.above))
                  | inr elsewhere ↦ changed_other g.claimed v w (x.sent + 1) elsewhere ∙ here.free none
                ];
            late = λ n late within. absurd (omega (arith, late, within));
          });
      history = λ w.
          elim (cases_eq w v) [
            | inl same ↦
                let number : 0 + x.sent + 1 ≡ x.sent + 1 = omega arith in
                let more : x.sent + 1 ≡ suc x.sent = omega arith in
                rw same (ap (waiters_of (g.given v) 0) (now ∙ more)
                ∙ one_more (g.given v) 0 x.sent oldest.seat oldest.ticket (ap (g.given v) number ∙ sym own.seat)
                (own.ticket ∙ sym number)
                ∙ ap (λ n. waiters_of (g.given v) 0 n ++ waiter_with oldest.seat oldest.ticket ∷ []) (sym own.unclaimed)
                ∙ ap (λ more. claims_told g v ++ more) (sym (claimed_here v oldest)))
            | inr elsewhere ↦
                ap (waiters_of (g.given w) 0) (changed_other g.claimed v w (x.sent + 1) elsewhere) ∙ append_none (claims_told g w)
                ∙ ap (λ more. claims_told g w ++ more) (sym (claimed_elsewhere v w oldest elsewhere))
          ];
    }

pub at_claiming : (k : CondvarCore) (g : CondvarGhost) (s v : ℕ) (all : Bool) (oldest : Waiter) → CoreFits k g
    → k.stage s ≡ claiming v all oldest → ClaimingFits k g s v oldest
    → CondvarOutcome (claims_waiter k s v all oldest) g (claimed_at k s (claiming v all oldest))
at_claiming k g s v all oldest fits stage own =
    let target = target_of k g s v all oldest fits stage own in
    let opens = claim_turn k.mutex s oldest.seat own.locks.is own.at target.word in
    let made_so : claim_of v oldest.ticket (point_of k s) ≡ claim_with v oldest ∷ [] = rw own.at refl in
    rw (opens, made_so, step_is_made k.mutex s own.locks.is) (claimed_outcome k g s v all oldest fits stage own)
