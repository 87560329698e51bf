-- The ways in which events change a state, each with what has to be shown.
use Rattle.std.proofs.Common.{◌≡◌, ◌≢◌, ◌⊎◌, ℕ, ◌-◌, ◌<◌, ◌≤◌, List, [], ◌∷◌, ◌++◌, refl, sym, ap, ◌∙◌, inl, inr, arith}
use Rattle.std.proofs.lemmas.Bool.{cases_eq}
use Rattle.lfm_words.specs.declared.wakes.Wake.TheVariants.{Waiting}
use Rattle.lfm_protocol.specs.Core.{Core}
use Rattle.lfm_laws.specs.steady.Ghost.{Ghost}
use Rattle.lfm_protocol.specs.Seats.{wake}
use Rattle.lfm_laws.specs.steady.Steady.{Fits}
use Rattle.lfm_laws.proofs.steady.frames.Sums.{changed_same, changed_other}
use Rattle.lfm_condvar_laws.specs.Condvars.{Condvar, Stage, CondvarCore, put_stage, put_mutex}
use Rattle.lfm_condvar_laws.specs.Claims.{Claim, claims_on}
use Rattle.lfm_condvar_laws.proofs.Invariant.{CondvarGhost, StageFits, IsPending, CondvarFits, CoreFits, claims_told}
use Rattle.lfm_condvar_laws.proofs.Tickets.{waiters_of}
use Rattle.lfm_condvar_laws.proofs.mutex.MutexMoves.{OthersStay, MutexMoves, moves_not}
use Rattle.lfm_condvar_laws.proofs.Frames.{CondvarAfter, fits_after}

-- the outcome of an event: the state fits again, and the claims of the ghost are extended by those of the event
pub record CondvarOutcome (l : CondvarCore) (g : CondvarGhost) (claims : List Claim) : Type 0 where
  pub to : CondvarGhost
  pub fits : CoreFits l to
  pub history : (v : ℕ) → claims_told to v ≡ claims_told g v ++ claims_on v claims

pub append_none : {A : Type 0} (xs : List A) → xs ≡ xs ++ []
append_none [] = refl
append_none (x ∷ rest) = ap (λ l. x ∷ l) (append_none rest)

-- the ghost with this ghost of the mutex
abbrev pub with_mutex : CondvarGhost → Ghost → CondvarGhost
with_mutex g m = record g { mutex = m }

-- nothing was claimed
pub quiet_outcome : (l : CondvarCore) (g : CondvarGhost) (m : Ghost) → CoreFits l (with_mutex g m) → CondvarOutcome l g []
quiet_outcome l g m fits = record { to = with_mutex g m; fits = fits; history = λ v. append_none (claims_told g v) }

-- a condvar that is unchanged
pub condvar_stays : (k l : CondvarCore) (g h : CondvarGhost) (v : ℕ) → CondvarFits k g v → l.condvar v ≡ k.condvar v
    → h.claimed v ≡ g.claimed v → h.given v ≡ g.given v → CondvarAfter k l g h v
condvar_stays k l g h v fits same claimed given =
    record {
      order = rw same fits.order;
      counted = rw (same, claimed) fits.counted;
      waiters = rw (same, given) fits.waiters;
      free = rw (same, claimed) fits.free;
      late = λ ticket late within.
          let size = ap (λ x. x.added) same in
          absurd (omega (arith, late, within, size));
    }

-- The state after seat s has moved in the user mutex, condvar v has become x, and the stage of the seat has become e

pub record OneCondvar (k l : CondvarCore) (d : Core) (s v : ℕ) (x : Condvar) (e : Stage) : Type 0 where
  pub mutex : l.mutex ≡ d
  pub here : l.condvar v ≡ x
  pub elsewhere : (w : ℕ) → w ≢ v → l.condvar w ≡ k.condvar w
  pub own : l.stage s ≡ e
  pub others : (t : ℕ) → t ≢ s → l.stage t ≡ k.stage t

-- what has to be shown of the new condvar: no ticket was given or claimed
pub record CondvarMoves (k : CondvarCore) (g : CondvarGhost) (s v : ℕ) (x : Condvar) : Type 0 where
  pub before : ((k.condvar v).holder ≡ 0) ⊎ ((k.condvar v).holder ≡ s)
  pub added : x.added ≡ (k.condvar v).added
  pub order : x.sent ≤ x.added
  pub counted : x.sent ≤ g.claimed v
  pub waiters : x.waiters ≡ waiters_of (g.given v) x.sent (x.added - x.sent)
  pub free : x.holder ≡ 0 → g.claimed v ≡ x.sent

-- no other seat has this lock
not_locked : (k : CondvarCore) (s t v : ℕ) → ((k.condvar v).holder ≡ 0) ⊎ ((k.condvar v).holder ≡ s) → t ≢ s → 0 < t
    → (k.condvar v).holder ≡ t → ⊥
not_locked k s t v (inl free) other some holds = omega (arith, free, some, holds)
not_locked k s t v (inr own) other some holds = other (sym holds ∙ own)

pub moves_one : (k l : CondvarCore) (g : CondvarGhost) (d : Core) (s v : ℕ) (x : Condvar) (e : Stage) → CoreFits k g
    → (m : MutexMoves k.mutex d s) → OneCondvar k l d s v x e
    → CondvarMoves k g s v x → StageFits l (with_mutex g m.to) s e
    → ((w ticket : ℕ) → g.claimed w < ticket → IsPending k w ticket s → IsPending l w ticket s)
    → CoreFits l (with_mutex g m.to)
moves_one k l g d s v x e fits m one moves own pending =
    let h = with_mutex g m.to in
    let leaves : OthersStay k.mutex l.mutex s = rw one.mutex m.leaves in
    let waits : (t : ℕ) → wake k.mutex.wakes t ≡ Waiting → wake l.mutex.wakes t ≡ Waiting = rw one.mutex m.waits in
    let waited : (t : ℕ) → t ≢ s → wake l.mutex.wakes t ≡ Waiting → wake k.mutex.wakes t ≡ Waiting =
    rw one.mutex (λ t other word. m.waited t (inl other) word) in
    let mutex : Fits l.mutex m.to = rw one.mutex m.fits in
    fits_after k l g h s fits mutex (record {
      leaves = leaves;
      stage = one.others;
      locked = λ t w other some holds.
          elim (cases_eq w v) [
            | inl same ↦ absurd (not_locked k s t v moves.before other some (ap (λ u. (k.condvar u).holder) (sym same) ∙ holds))
            | inr elsewhere ↦ record { condvar = one.elsewhere w elsewhere; claimed = refl }
          ];
      given = λ w ticket within. refl;
      added = λ w.
          elim (cases_eq w v) [
            | inl same ↦ let size : (l.condvar w).added ≡ (k.condvar w).added = rw (same, one.here) moves.added in omega
                (arith, size)
            | inr elsewhere ↦ let size = ap (λ u. u.added) (one.elsewhere w elsewhere) in omega (arith, size)
          ];
      claimed = λ w. omega arith;
      starting_waits = λ t w ticket stage word. waits t word;
      receiving_waits = λ t w ticket stage unclaimed word. waits t word;
      sent = λ t w ticket other stage before claimed word. before.sent claimed (waited t other word);
    }) (record { stage = rw one.own own; pending = pending }) (λ w.
    elim (cases_eq w v) [
      | inl same ↦
          rw same (record {
            order = rw one.here moves.order;
            counted = rw one.here moves.counted;
            waiters = rw one.here moves.waiters;
            free = rw one.here moves.free;
            late = λ ticket late within.
                let size = ap (λ u. u.added) one.here in
                absurd (omega (arith, late, within, size, moves.added));
          })
      | inr elsewhere ↦ condvar_stays k l g h w (fits.condvars w) (one.elsewhere w elsewhere) refl refl
    ])

-- The state after seat s has moved in the user mutex alone

mutex_pending : (k : CondvarCore) (d : Core) (g : CondvarGhost) (s w ticket : ℕ) → MutexMoves k.mutex d s → IsPending k w ticket s
    → IsPending (put_mutex k d) w ticket s
mutex_pending k d g s w ticket m (inl starts) = inl starts
mutex_pending k d g s w ticket m (inr waits) = inr (waits.0, m.waits s waits.1)

pub moves_mutex : (k : CondvarCore) (g : CondvarGhost) (d : Core) (s : ℕ) → CoreFits k g → (m : MutexMoves k.mutex d s)
    → StageFits (put_mutex k d) (with_mutex g m.to) s (k.stage s)
    → CoreFits (put_mutex k d) (with_mutex g m.to)
moves_mutex k g d s fits m own =
    let l = put_mutex k d in
    let h = with_mutex g m.to in
    fits_after k l g h s fits m.fits (record {
      leaves = m.leaves;
      stage = λ t other. refl;
      locked = λ t w other some holds. record { condvar = refl; claimed = refl };
      given = λ w ticket within. refl;
      added = λ w. omega arith;
      claimed = λ w. omega arith;
      starting_waits = λ t w ticket stage word. m.waits t word;
      receiving_waits = λ t w ticket stage unclaimed word. m.waits t word;
      sent = λ t w ticket other stage before claimed word. before.sent claimed (m.waited t (inl other) word);
    }) (record { stage = own; pending = λ w ticket unclaimed pending. mutex_pending k d g s w ticket m pending }) (λ w.
    condvar_stays k l g h w (fits.condvars w) refl refl refl)

-- The state after only the stage of a seat has changed

pub moves_stage : (k : CondvarCore) (g : CondvarGhost) (s : ℕ) (e : Stage) → CoreFits k g → StageFits (put_stage k s e) g s e
    → ((w ticket : ℕ) → g.claimed w < ticket → IsPending k w ticket s → IsPending (put_stage k s e) w ticket s)
    → CoreFits (put_stage k s e) g
moves_stage k g s e fits own pending =
    let l = put_stage k s e in
    let m = moves_not k.mutex g.mutex s fits.mutex in
    fits_after k l g g s fits fits.mutex (record {
      leaves = m.leaves;
      stage = λ t other. changed_other k.stage s t e other;
      locked = λ t w other some holds. record { condvar = refl; claimed = refl };
      given = λ w ticket within. refl;
      added = λ w. omega arith;
      claimed = λ w. omega arith;
      starting_waits = λ t w ticket stage word. word;
      receiving_waits = λ t w ticket stage unclaimed word. word;
      sent = λ t w ticket other stage before claimed word. before.sent claimed word;
    }) (record { stage = rw (changed_same k.stage s e) own; pending = pending })
    (λ w. condvar_stays k l g g w (fits.condvars w) refl refl refl)
