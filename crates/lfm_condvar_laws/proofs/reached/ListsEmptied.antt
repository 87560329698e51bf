-- A wake of all continues until the list is empty: none of its claims fails.
use Rattle.std.proofs.Common.{◌≡◌, ℕ, Bool, true, false, ◌&&◌, List, [], ◌∷◌, nat_eq, refl, sym, ap, ◌∙◌, subst, inl, inr, if◌then◌else◌}
use Rattle.std.proofs.lemmas.Bool.{eq-eqb, and_parts, false≢true}
use Rattle.lfm_protocol.specs.Step.{step}
use Rattle.lfm_protocol.specs.Turns.{is_open}
use Rattle.lfm_laws.specs.laws.Schedules.{is_call}
use Rattle.lfm_laws.proofs.steady.frames.Sums.{changed_same}
use Rattle.lfm_condvar_laws.specs.Condvars.{Waiter, Condvar, Stage, outside, locking_to_wait, starting, receiving, locking_to_wake, claiming, sending, unlocking, CondvarCore, point_of, put_condvar}
use Rattle.lfm_condvar_laws.specs.Events.{CondvarEvent, makes, is_outside, sends_next, removed, goes_on, happens}
use Rattle.lfm_condvar_laws.specs.Laws.{CondvarRun, reached_by, WakesEmptyTheList}
use Rattle.lfm_condvar_laws.specs.Stages.{sends_all}
use Rattle.lfm_condvar_laws.proofs.Invariant.{StageFits}
use Rattle.lfm_condvar_laws.proofs.LockMoves.{same_condvar, stage_by}
use Rattle.lfm_condvar_laws.proofs.Runs.{run_reaches}
use Rattle.lfm_condvar_laws.proofs.reached.ClaimsFound.{claims_never_fail}

-- it has stopped sending, and the list is empty
abbrev IsEmptied : CondvarCore → ℕ → ℕ → Type 0
IsEmptied l s v = (l.stage s ≡ unlocking v) × ((l.condvar v).waiters ≡ [])

goes_on_sending : (v : ℕ) (d e : Stage) → d ≡ e → sends_all v e ≡ true → sends_all v d ≡ false → ⊥
goes_on_sending v d e is sends ends = false≢true (sym ends ∙ ap (sends_all v) is ∙ sends)

emptied_if : (b : Bool) (k l : CondvarCore) (s v : ℕ)
    → (sends_all v (k.stage s) ≡ false → IsEmptied k s v) → (sends_all v (l.stage s) ≡ false → IsEmptied l s v)
    → sends_all v ((if b then k else l).stage s) ≡ false → IsEmptied (if b then k else l) s v
emptied_if true k l s v first second ends = first ends
emptied_if false k l s v first second ends = second ends

-- a wake of all that has the lock of condvar v, whose list is this, either sends next or leaves an empty list
next_empties : (k : CondvarCore) (s v : ℕ) (x : Condvar) (waiters : List Waiter) → x.waiters ≡ waiters
    → sends_all v ((sends_next (put_condvar k v x) s v true waiters).stage s) ≡ false
    → IsEmptied (sends_next (put_condvar k v x) s v true waiters) s v
next_empties k s v x [] list ends =
    (changed_same k.stage s (unlocking v), ap (λ y. y.waiters) (changed_same k.condvar v x) ∙ list)
next_empties k s v x (oldest ∷ rest) list ends =
    absurd (goes_on_sending v _ (claiming v true oldest) (changed_same k.stage s (claiming v true oldest)) (eq-eqb v v refl) ends)

locks_and_empties : (k : CondvarCore) (s v : ℕ) → k.stage s ≡ locking_to_wake v true
    → sends_all v ((goes_on k s (locking_to_wake v true)).stage s) ≡ false → IsEmptied (goes_on k s (locking_to_wake v true)) s v
locks_and_empties k s v stage =
    emptied_if (nat_eq (k.condvar v).holder 0) _ k s v
    (next_empties k s v (record (k.condvar v) { holder = s }) (k.condvar v).waiters refl)
    (λ ends. absurd (goes_on_sending v (k.stage s) (locking_to_wake v true) stage (eq-eqb v v refl) ends))

sends_and_empties : (k : CondvarCore) (s v : ℕ) (oldest : Waiter) → k.stage s ≡ sending v true oldest
    → sends_all v ((goes_on k s (sending v true oldest)).stage s) ≡ false → IsEmptied (goes_on k s (sending v true oldest)) s v
sends_and_empties k s v oldest stage =
    emptied_if (is_call (point_of k s)) _ _ s v
    (λ ends. absurd (goes_on_sending v (k.stage s) (sending v true oldest) stage (eq-eqb v v refl) ends))
    (next_empties k s v (removed (k.condvar v)) (removed (k.condvar v)).waiters refl)

claims_and_goes_on : (k : CondvarCore) (s v : ℕ) (oldest : Waiter) → is_open (step k.mutex s).turn ≡ true
    → sends_all v ((goes_on k s (claiming v true oldest)).stage s) ≡ false → ⊥
claims_and_goes_on k s v oldest opens ends =
    goes_on_sending v _ (sending v true oldest)
    (changed_same k.stage s _ ∙ ap (λ (b : Bool). if b then sending v true oldest else unlocking v) opens) (eq-eqb v v refl) ends

-- a stage of a wake of all waiters of condvar v, split into these two facts
of_all : (all : Bool) (w v : ℕ) → (all && nat_eq w v) ≡ true → (all ≡ true) × (w ≡ v)
of_all all w v is = let parts = and_parts _ _ is in (parts.0, same_condvar v w parts.1)

goes_on_until_empty : (r : CondvarRun) (s v : ℕ) (d : Stage) → (reached_by r).stage s ≡ d → sends_all v d ≡ true
    → sends_all v ((goes_on (reached_by r) s d).stage s) ≡ false → IsEmptied (goes_on (reached_by r) s d) s v
goes_on_until_empty r s v outside stage sends ends = absurd (false≢true sends)
goes_on_until_empty r s v (locking_to_wait w) stage sends ends = absurd (false≢true sends)
goes_on_until_empty r s v (starting w ticket) stage sends ends = absurd (false≢true sends)
goes_on_until_empty r s v (receiving w ticket) stage sends ends = absurd (false≢true sends)
goes_on_until_empty r s v (unlocking w) stage sends ends = absurd (false≢true sends)
goes_on_until_empty r s v (locking_to_wake w false) stage sends ends = absurd (false≢true sends)
goes_on_until_empty r s v (claiming w false oldest) stage sends ends = absurd (false≢true sends)
goes_on_until_empty r s v (sending w false oldest) stage sends ends = absurd (false≢true sends)
goes_on_until_empty r s v (locking_to_wake w true) stage sends ends =
    let here = same_condvar v w sends in
    subst (λ u. sends_all u ((goes_on (reached_by r) s (locking_to_wake w true)).stage s) ≡ false → IsEmptied (goes_on (reached_by r) s (locking_to_wake w true)) s u) here
    (locks_and_empties (reached_by r) s w stage) ends
goes_on_until_empty r s v (sending w true oldest) stage sends ends =
    let here = same_condvar v w sends in
    subst (λ u. sends_all u ((goes_on (reached_by r) s (sending w true oldest)).stage s) ≡ false → IsEmptied (goes_on (reached_by r) s (sending w true oldest)) s u) here
    (sends_and_empties (reached_by r) s w oldest stage) ends
goes_on_until_empty r s v (claiming w true oldest) stage sends ends =
    let here = same_condvar v w sends in
    let is = run_reaches r in
    let own : StageFits (reached_by r) is.ghost_state s (claiming w true oldest) = rw stage at (is.fits.stages s) in
    let opens = (claims_never_fail r s oldest.seat own.at).1 in
    absurd (claims_and_goes_on (reached_by r) s w oldest opens (subst (λ u. sends_all u ((goes_on (reached_by r) s (claiming w true oldest)).stage s) ≡ false) (sym here) ends))

sends_inside : (v : ℕ) (d : Stage) → sends_all v d ≡ true → is_outside d ≡ false
sends_inside v outside sends = absurd (false≢true sends)
sends_inside v _ sends = refl

by_own : (r : CondvarRun) (s v : ℕ) (e : CondvarEvent) → e ≡ makes s → sends_all v ((reached_by r).stage s) ≡ true
    → sends_all v ((happens (reached_by r) e).stage s) ≡ false → IsEmptied (happens (reached_by r) e) s v
by_own r s v e own sends =
    subst (λ f. sends_all v ((happens (reached_by r) f).stage s) ≡ false → IsEmptied (happens (reached_by r) f) s v) (sym own)
    (goes_on_until_empty r s v ((reached_by r).stage s) refl sends)

pub wakes_empty_the_list : WakesEmptyTheList
wakes_empty_the_list r s v e sends ends =
    elim (stage_by (reached_by r) e s (sends_inside v ((reached_by r).stage s) sends)) [
      | inl same ↦ absurd (goes_on_sending v _ ((reached_by r).stage s) same sends ends)
      | inr own ↦ by_own r s v e own sends ends
    ]
