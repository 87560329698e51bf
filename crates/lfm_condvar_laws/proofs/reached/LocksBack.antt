-- Which seat has the lock of a condvar: the one whose call has taken it and not released it. A wake ends by releasing it.
use Rattle.std.proofs.Common.{◌≡◌, ℕ, Bool, true, false, ◌<◌, List, [], ◌∷◌, nat_eq, refl, sym, ap, ◌∙◌, inl, inr, arith, if◌then◌else◌}
use Rattle.std.proofs.lemmas.Bool.{cases_eq, false≢true}
use Rattle.lfm_protocol.specs.declared.limits.Limits.{Limits}
use Rattle.lfm_protocol.specs.Step.{step}
use Rattle.lfm_protocol.specs.Turns.{is_open}
use Rattle.lfm_laws.specs.laws.Schedules.{is_call}
use Rattle.lfm_laws.proofs.steady.frames.Sums.{changed_same}
use Rattle.lfm_condvar_laws.specs.Condvars.{Waiter, Stage, outside, locking_to_wait, starting, receiving, locking_to_wake, claiming, sending, unlocking, CondvarCore, point_of, put_stage, put_condvar, put_holder, condvar_start}
use Rattle.lfm_condvar_laws.specs.Events.{CondvarEvent, makes, is_outside, mutex_steps, sends_next, removed, goes_on, happens, run_of}
use Rattle.lfm_condvar_laws.specs.Laws.{reached_by, LocksAreGivenBack}
use Rattle.lfm_condvar_laws.specs.Stages.{has_lock, is_wake}
use Rattle.lfm_condvar_laws.proofs.LockMoves.{SeatMoves, LockMoves, actor, event_moves, held_by, same_condvar, stage_by}
use Rattle.lfm_condvar_laws.proofs.Runs.{run_reaches}

-- Which seat has it

-- a lock that is not free belongs to a call that continues with it
abbrev LocksFit : CondvarCore → Type 0
LocksFit k = (w t : ℕ) → 0 < t → (k.condvar w).holder ≡ t → has_lock w (k.stage t) ≡ true

one_fits : (k l : CondvarCore) (s w t : ℕ) → LocksFit k → SeatMoves k l s → 0 < t → (l.condvar w).holder ≡ t
    → LockMoves k l s w → has_lock w (l.stage t) ≡ true
one_fits k l s w t fits moves some holds (inl stays) =
    let had = fits w t some (sym stays.0 ∙ holds) in
    elim (cases_eq t s) [
      | inl same ↦ rw same (stays.1 (ap (λ u. has_lock w (k.stage u)) (sym same) ∙ had))
      | inr other ↦ ap (has_lock w) (moves.others t other) ∙ had
    ]
one_fits k l s w t fits moves some holds (inr (inl free)) = absurd (omega (arith, some, holds, free))
one_fits k l s w t fits moves some holds (inr (inr own)) =
    let same : s ≡ t = sym own.0 ∙ holds in
    ap (λ u. has_lock w (l.stage u)) (sym same) ∙ own.1

after_moves : (k l : CondvarCore) (s : ℕ) → LocksFit k → SeatMoves k l s → LocksFit l
after_moves k l s fits moves w t some holds = one_fits k l s w t fits moves some holds (moves.locks w)

run_fits : (k : CondvarCore) (events : List CondvarEvent) → LocksFit k → LocksFit (run_of k events)
run_fits k [] fits = fits
run_fits k (e ∷ later) fits =
    run_fits (happens k e) later (after_moves k (happens k e) (actor e) fits (event_moves k e))

start_fits : (limits : Limits) → LocksFit (condvar_start limits)
start_fits limits w t some free = absurd (omega (arith, some, free))

-- The last event of a wake

inside_if : (b : Bool) (k l : CondvarCore) (s : ℕ) → is_outside (k.stage s) ≡ false → is_outside (l.stage s) ≡ false
    → is_outside ((if b then k else l).stage s) ≡ false
inside_if true k l s first second = first
inside_if false k l s first second = second

put_inside : (k : CondvarCore) (s : ℕ) (e : Stage) → is_outside e ≡ false → is_outside ((put_stage k s e).stage s) ≡ false
put_inside k s e inside = ap is_outside (changed_same k.stage s e) ∙ inside

next_inside : (k : CondvarCore) (s v : ℕ) (all : Bool) (waiters : List Waiter) → is_outside ((sends_next k s v all waiters).stage s) ≡ false
next_inside k s v all [] = put_inside k s (unlocking v) refl
next_inside k s v all (oldest ∷ rest) = put_inside k s (claiming v all oldest) refl

claimed_inside : (k : CondvarCore) (s v : ℕ) (all : Bool) (oldest : Waiter) (b : Bool)
    → is_outside ((put_stage k s (if b then sending v all oldest else unlocking v)).stage s) ≡ false
claimed_inside k s v all oldest true = put_inside k s (sending v all oldest) refl
claimed_inside k s v all oldest false = put_inside k s (unlocking v) refl

ends_outside : (d : Stage) → d ≡ outside → is_outside d ≡ false → ⊥
ends_outside d is inside = false≢true (sym inside ∙ ap is_outside is)

-- a wake that ends has released the lock
free_after : (k : CondvarCore) (s v : ℕ) (d : Stage) → k.stage s ≡ d → is_wake v d ≡ true → (goes_on k s d).stage s ≡ outside
    → ((goes_on k s d).condvar v).holder ≡ 0
free_after k s v outside stage waking over = absurd (false≢true waking)
free_after k s v (locking_to_wait w) stage waking over = absurd (false≢true waking)
free_after k s v (starting w ticket) stage waking over = absurd (false≢true waking)
free_after k s v (receiving w ticket) stage waking over = absurd (false≢true waking)
free_after k s v (locking_to_wake w all) stage waking over =
    absurd (ends_outside _ over (inside_if (nat_eq (k.condvar w).holder 0) _ k s (next_inside (put_holder k w s) s w all (k.condvar w).waiters)
    (ap is_outside stage)))
free_after k s v (claiming w all oldest) stage waking over =
    absurd (ends_outside _ over (claimed_inside (mutex_steps k s) s w all oldest (is_open (step k.mutex s).turn)))
free_after k s v (sending w all oldest) stage waking over =
    absurd (ends_outside _ over (inside_if (is_call (point_of k s)) _ _ s (ap is_outside stage)
    (inside_if all _ _ s (next_inside (put_condvar k w (removed (k.condvar w))) s w all _)
    (put_inside (put_condvar k w (removed (k.condvar w))) s (unlocking w) refl))))
free_after k s v (unlocking w) stage waking over =
    ap (λ u. ((put_holder k w 0).condvar u).holder) (sym (same_condvar v w waking))
    ∙ ap (λ x. x.holder) (changed_same k.condvar w (record (k.condvar w) { holder = 0 }))

wake_inside : (v : ℕ) (d : Stage) → is_wake v d ≡ true → is_outside d ≡ false
wake_inside v outside waking = absurd (false≢true waking)
wake_inside v _ waking = refl

by_own : (k : CondvarCore) (s v : ℕ) (e : CondvarEvent) → e ≡ makes s → is_wake v (k.stage s) ≡ true → (happens k e).stage s ≡ outside
    → ((happens k e).condvar v).holder ≡ 0
by_own k s v e own waking over =
    ap (λ f. ((happens k f).condvar v).holder) own
    ∙ free_after k s v (k.stage s) refl waking (ap (λ f. (happens k f).stage s) (sym own) ∙ over)

pub locks_are_given_back : LocksAreGivenBack
locks_are_given_back r s v =
    let is = run_reaches r in
    let k = reached_by r in (
      λ some. (
        λ holds. run_fits (condvar_start r.limits) r.events (start_fits r.limits) v s some holds,
        λ has. held_by k is.ghost_state s v (k.stage s) (is.fits.stages s) has,
      ),
      λ e waking over.
          let inside = wake_inside v (k.stage s) waking in
          elim (stage_by k e s inside) [
            | inl same ↦ absurd (ends_outside (k.stage s) (sym same ∙ over) inside)
            | inr own ↦ by_own k s v e own waking over
          ],
    )
