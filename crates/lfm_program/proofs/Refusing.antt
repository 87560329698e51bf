-- The cause of a refused call of the monitor is the cause of the refused command.
use Rattle.std.proofs.Common.{◌≡◌, ◌++◌, ⊎_elim, inl, inr, ◌<◌, ℕ, zero, suc, List, [], ◌∷◌, get_or, length, set, take, refl, sym, ◌∙◌, ap, subst, arith, Err, Ok, Result, IfErr, true≢false}
use Rattle.std.specs.Bool.{⊤}
use mathlib.Core.Option.{some, some-ne-none}
use lib.ListN.{get_elem?}
use Rattle.lfm_model.specs.declared.answers.Unlocked.{Unlocked}
use Rattle.lfm_model.specs.declared.answers.Unlocked.TheVariants.{Still, Free, Granted, Posted, TakenOver}
use Rattle.lfm_model.specs.declared.objects.Total.{Total}
use Rattle.lfm_model.specs.declared.objects.TotalOp.{TotalOp}
use Rattle.lfm_model.specs.declared.refusals.Refusal.{Refusal}
use Rattle.lfm_model.specs.declared.refusals.Refusal.TheVariants.{Asleep, NotOwner, Nested, DepthFull, Spent, NoSuchSeat, NotWaiting, Busy}
use Rattle.lfm_mutex.specs.Close.{Idle}
use Rattle.lfm_mutex.specs.calls.Sight.{Sight}
use Rattle.lfm_condvar.specs.declared.cond_seat.CondSeat.{CondSeat}
use Rattle.lfm_condvar.specs.declared.waiters.Waiters.{Waiters}
use Rattle.lfm_condvar.specs.Belongs.{cond_sight}
use Rattle.lfm_condvar.specs.Lists.{times}
use Rattle.lfm_condvar.specs.Waits.{WaitEnds as CondWaitEnds}
use Rattle.lfm_condvar.specs.Wakes.{WakeAllEnds as CondWakeAllEnds, WakeOneEnds as CondWakeOneEnds}
use Rattle.lfm_monitor.specs.declared.journaled.Journaled.{Journaled}
use Rattle.lfm_monitor.specs.declared.monitor.Monitor.{Monitor}
use Rattle.lfm_monitor.specs.declared.pass.Pass.{Pass}
use Rattle.lfm_monitor.specs.Belongs.{cond_seats_of, conditions_of, mine_of, mutex_limits, pass_sight, passes_of, share_of, tries_in}
use Rattle.lfm_monitor.specs.CondSeats.{condition_limits}
use Rattle.lfm_monitor.specs.Conditions.{IsSpent, OnCondition, WaitEnds, WakeAllEnds, WakeOneEnds}
use Rattle.lfm_monitor.specs.Journaled.{JournalFits, JournalFollows}
use Rattle.lfm_monitor.specs.Passes.{LeaveEnds}
use Rattle.lfm_program.specs.declared.performed.Performed.TheVariants.{Refused}
use Rattle.lfm_script.specs.declared.script.Command.{Command}
use Rattle.lfm_script.specs.declared.script.Command.TheVariants.{Until}
use Rattle.lfm_script.specs.Adds.{all_adds}
use Rattle.lfm_program.specs.Causes.{AtCondition, FoundListed, FoundNotWaiting, HasCause, HasCauseIfSent, HasNoTake, RefusedForCause, WakeHasCause}
use Rattle.lfm_program.specs.Performs.{HoldsOnce, own_adds}

-- an item that was set at a place is found there
stands_set : {A : Type 0} (xs : List A) (i : ℕ) (x y : A) → get_elem? xs i ≡ some y → get_elem? (set xs i x) i ≡ some x
stands_set [] i x y e = absurd (some-ne-none y (sym e))
stands_set (z ∷ xs) zero x y e = refl
stands_set (z ∷ xs) (suc i) x y e = stands_set xs i x y e

-- a property that each use of a cond seat leaves holds of the cond seat that was used
used_at : (condition : ℕ) (cs ds : List CondSeat) (used : Sight Waiters → Sight Waiters → Type 0) (so : Sight Waiters → Type 0) → OnCondition condition cs ds used
    → ((c d : Sight Waiters) → used c d → so d) → AtCondition condition ds so
used_at condition cs ds used so e f = (
  e.0,
  e.2,
  e.3,
  ap (λ xs. get_elem? xs e.0) e.5 ∙ stands_set cs e.0 e.2 e.1 e.4,
  f (cond_sight e.1) (cond_sight e.2) e.6,
)

module _ {R : Type 0} {K : _} where
  -- giving up a hold costs no take
  pub takes_left : (s t : Sight (Journaled Total TotalOp R K)) (n n' : ℕ) (r : Result Unlocked Refusal) → HoldsOnce s → LeaveEnds s t n n' r → t.takes ≡ s.takes
  takes_left s t n n' (Ok Free) h e = e.4
  takes_left s t n n' (Ok (Granted k)) h e = e.4
  takes_left s t n n' (Ok Posted) h e = e.4
  takes_left s t n n' (Ok TakenOver) h e = e.4
  takes_left s t n n' (Ok (Still k)) h e = absurd (let a = h.depth in let b = e.1 in let c = e.2 in omega arith)
  takes_left s t n n' (Err Asleep) h e = absurd (true≢false (sym e.0 ∙ h.awake))
  takes_left s t n n' (Err NotOwner) h e = absurd (let a = h.depth in let b = e.1 in omega arith)
  takes_left s t n n' (Err Nested) h e = absurd e
  takes_left s t n n' (Err DepthFull) h e = absurd e
  takes_left s t n n' (Err Spent) h e = absurd e
  takes_left s t n n' (Err NoSuchSeat) h e = absurd e
  takes_left s t n n' (Err NotWaiting) h e = absurd e
  takes_left s t n n' (Err Busy) h e = absurd e

  -- the cause of a refused wait, of a pass that holds once and writes no entry
  pub not_waited_for : (m : Monitor Total TotalOp R K) (p q : Pass Total TotalOp R K) (condition k : ℕ) (r : Refusal) → HoldsOnce (pass_sight p)
      → WaitEnds (mutex_limits m) (condition_limits (passes_of m)) (tries_in m) (share_of m) (conditions_of m) condition (cond_seats_of p) (cond_seats_of q) (pass_sight p) (pass_sight q) (mine_of p) (Err r)
      → mine_of q ≡ mine_of p → HasCause (Until condition k) m q r
  not_waited_for m p q condition k Spent h e mine = ⊎_elim
      (λ w. inl (⊎_elim (λ l. inr (let a = ap (λ u. u.takes) e.1 in omega arith)) (λ l. inl (let a = mine in omega arith)) w.0.2))
      (λ w. inr (used_at condition (cond_seats_of p) (cond_seats_of q) (IsSpent (condition_limits (passes_of m))) HasNoTake w.1 (λ c d u. let a = ap (λ (x : Sight Waiters). x.takes) u.1 in let b = u.0 in omega arith)))
      e.0
  not_waited_for m p q condition k NoSuchSeat h e mine = e.1
  not_waited_for m p q condition k Busy h e mine =
      used_at condition (cond_seats_of p) (cond_seats_of q) (λ c d. CondWaitEnds JournalFollows JournalFits (mutex_limits m) (condition_limits (passes_of m)) (tries_in m) c d (pass_sight p) (pass_sight q) (Err Busy))
      (FoundListed (pass_sight q).number) e.1 (λ c d u. (
        u.0,
        u.2.found,
        let t_is : pass_sight q ≡ pass_sight p = u.3.4 in subst (λ (n : ℕ). 0 < times n u.0.list.items) (sym (ap (λ s. s.number) t_is)) u.3.2,
      ))
  not_waited_for m p q condition k Asleep h e mine = absurd (true≢false (sym e.0 ∙ h.awake))
  not_waited_for m p q condition k NotOwner h e mine = absurd (let a = h.depth in let b = e.0.1 in omega arith)
  not_waited_for m p q condition k Nested h e mine = absurd (let a = h.depth in let b = e.0.1 in omega arith)
  not_waited_for m p q condition k DepthFull h e mine = absurd e.0
  not_waited_for m p q condition k NotWaiting h e mine = absurd e.0

  -- the cause remains when the pass leaves the monitor
  until_left : (m : Monitor Total TotalOp R K) (p q : Pass Total TotalOp R K) (condition k : ℕ) (r : Refusal) → (pass_sight q).number ≡ (pass_sight p).number
      → (pass_sight q).takes ≡ (pass_sight p).takes → mine_of q ≡ mine_of p → cond_seats_of q ≡ cond_seats_of p → HasCause (Until condition k) m p r → HasCause (Until condition k) m q r
  until_left m p q condition k Spent number takes mine seats h =
      ⊎_elim (λ u. inl (⊎_elim (λ l. inl (omega arith)) (λ l. inr (omega arith)) u)) (λ a. inr (subst (λ cs. AtCondition condition cs HasNoTake) (sym seats) a)) h
  until_left m p q condition k NoSuchSeat number takes mine seats h = h
  until_left m p q condition k Busy number takes mine seats h =
      subst (λ cs. AtCondition condition cs (FoundListed (pass_sight q).number)) (sym seats) (subst (λ (n : ℕ). AtCondition condition (cond_seats_of p) (FoundListed n)) (sym number) h)
  until_left m p q condition k Asleep number takes mine seats h = absurd h
  until_left m p q condition k NotOwner number takes mine seats h = absurd h
  until_left m p q condition k Nested number takes mine seats h = absurd h
  until_left m p q condition k DepthFull number takes mine seats h = absurd h
  until_left m p q condition k NotWaiting number takes mine seats h = absurd h

  pub cause_left : (m : Monitor Total TotalOp R K) (p q : Pass Total TotalOp R K) (condition k : ℕ) (r : Result ⊤ Refusal) → (pass_sight q).number ≡ (pass_sight p).number
      → (pass_sight q).takes ≡ (pass_sight p).takes → mine_of q ≡ mine_of p → cond_seats_of q ≡ cond_seats_of p → IfErr r (λ x. HasCauseIfSent (Until condition k) m p x)
      → IfErr r (λ x. HasCauseIfSent (Until condition k) m q x)
  cause_left m p q condition k (Ok u) number takes mine seats h = tt
  cause_left m p q condition k (Err r) number takes mine seats h = λ sent. until_left m p q condition k r number takes mine seats (h sent)

  -- the cause of a refused wake, of a pass that is awake
  pub not_woke_one : (m : Monitor Total TotalOp R K) (p q : Pass Total TotalOp R K) (condition : ℕ) (r : Refusal) → Idle (pass_sight p)
      → WakeOneEnds (passes_of m) (condition_limits (passes_of m)) (tries_in m) (conditions_of m) condition (cond_seats_of p) (cond_seats_of q) (pass_sight p) (pass_sight q) (Err r)
      → WakeHasCause condition m q r
  not_woke_one m p q condition NoSuchSeat idle e = e.0.1
  not_woke_one m p q condition Spent idle e =
      used_at condition (cond_seats_of p) (cond_seats_of q) (λ c d. CondWakeOneEnds (passes_of m) (condition_limits (passes_of m)) (tries_in m) c d (pass_sight p) (pass_sight q) (Err Spent)) HasNoTake e (λ c d u. let a = ap (λ (x : Sight Waiters). x.takes) u.2 in let b = u.1 in omega arith)
  not_woke_one m p q condition NotWaiting idle e = used_at condition (cond_seats_of p) (cond_seats_of q) (λ c d. CondWakeOneEnds (passes_of m) (condition_limits (passes_of m)) (tries_in m) c d (pass_sight p) (pass_sight q) (Err NotWaiting)) (FoundNotWaiting (passes_of m) (pass_sight q)) e (λ c d u. let o = u.3.1 in (u.0, [], o.0, o.1, pass_sight p, u.2.found, o.2, o.3))
  not_woke_one m p q condition Asleep idle e = absurd (true≢false (sym e.0 ∙ idle.1))
  not_woke_one m p q condition NotOwner idle e = absurd e.6.3
  not_woke_one m p q condition Nested idle e = absurd e.6.3
  not_woke_one m p q condition DepthFull idle e = absurd e.6.3
  not_woke_one m p q condition Busy idle e = absurd e.6.3

  pub not_woke_all : (m : Monitor Total TotalOp R K) (p q : Pass Total TotalOp R K) (condition : ℕ) (r : Refusal) → Idle (pass_sight p)
      → WakeAllEnds (passes_of m) (condition_limits (passes_of m)) (tries_in m) (conditions_of m) condition (cond_seats_of p) (cond_seats_of q) (pass_sight p) (pass_sight q) (Err r)
      → WakeHasCause condition m q r
  not_woke_all m p q condition NoSuchSeat idle e = e.0.1
  not_woke_all m p q condition Spent idle e =
      used_at condition (cond_seats_of p) (cond_seats_of q) (λ c d. CondWakeAllEnds (passes_of m) (condition_limits (passes_of m)) (tries_in m) c d (pass_sight p) (pass_sight q) (Err Spent)) HasNoTake e (λ c d u. let a = ap (λ (x : Sight Waiters). x.takes) u.2 in let b = u.1 in omega arith)
  not_woke_all m p q condition NotWaiting idle e = used_at condition (cond_seats_of p) (cond_seats_of q) (λ c d. CondWakeAllEnds (passes_of m) (condition_limits (passes_of m)) (tries_in m) c d (pass_sight p) (pass_sight q) (Err NotWaiting)) (FoundNotWaiting (passes_of m) (pass_sight q)) e (λ c d u. let o = u.3.4 in
      (u.0, u.3.0, o.0, o.1, u.3.1, u.2.found, u.3.2.list ∙ ap (λ xs. u.3.0 ++ xs) o.2, o.3))
  not_woke_all m p q condition Asleep idle e = absurd (true≢false (sym e.0 ∙ idle.1))
  not_woke_all m p q condition NotOwner idle e = absurd e.6.3
  not_woke_all m p q condition Nested idle e = absurd e.6.3
  not_woke_all m p q condition DepthFull idle e = absurd e.6.3
  not_woke_all m p q condition Busy idle e = absurd e.6.3

-- the command at a place
there : (ms : List Command) (i : ℕ) (d : Command) → i < length ms → get_elem? ms i ≡ some (get_or ms i d)
there [] i d h = absurd (omega arith)
there (m ∷ ms) zero d h = refl
there (m ∷ ms) (suc i) d h = there ms i d (omega arith)

module _ {R : Type 0} {K : _} where
  -- the command at this place was refused
  pub refused_there : (m : Monitor Total TotalOp R K) (ms : List Command) (i : ℕ) (d : Command) (old now : List ℕ) (p : Pass Total TotalOp R K) (r : Refusal) → i < length ms
      → now ≡ old ++ all_adds (take i ms) → own_adds (pass_sight p) ≡ now → HasCauseIfSent (get_or ms i d) m p r → RefusedForCause m ms old p (Refused r)
  refused_there m ms i d old now p r h made same cause = (i, get_or ms i d, there ms i d h, same ∙ made, cause)
