-- Seats and passes as they are made.
use Rattle.std.proofs.Common.{◌≡◌, ℕ, ◌<◌, ◌≤◌, [], length, Some, refl, sym, ◌∙◌, ap, subst, arith}
use Rattle.lfm_model.specs.Journals.{own}
use Rattle.lfm_mutex.specs.declared.mutex.Mutex.{Mutex}
use Rattle.lfm_mutex.specs.declared.seat.Seat.{Seat}
use Rattle.lfm_mutex.specs.Belongs.{OfMutex}
use Rattle.lfm_mutex.specs.calls.Sight.{Sight, new_sight, sight}
use Rattle.lfm_monitor.specs.declared.journaled.Journaled.{Journaled}
use Rattle.lfm_monitor.specs.Begun.{IsEmpty}
use Rattle.lfm_monitor.specs.Passes.{PassKept, Began}
use Rattle.lfm_monitor.proofs.Knowing.{one_some}

module _ {O A R : Type 0} {K : _} where
  -- a seat of a new mutex around an object with an empty journal
  pub record NewSeat (object : O) (seats share number : ℕ) (m : Mutex (Journaled O A R K)) (s : Seat (Journaled O A R K)) : Type 0 where
    pub of : OfMutex s m
    pub empty : Journaled O A R K
    pub is : IsEmpty object seats share empty
    pub sees : sight s ≡ new_sight empty seats number

  new_sight_kept : (v : Journaled O A R K) (seats n : ℕ) → v.journal.items ≡ [] → 0 < n → n ≤ v.seats → PassKept (new_sight v seats n) 0 0
  new_sight_kept v seats n nothing low high = record {
    there = refl;
    seated = λ l is. let e = ap (λ (b : Journaled O A R K). b.seats) (one_some (Some v) v l refl is) in (low, omega arith);
    free = λ z. refl;
    held = λ h. absurd (omega arith);
    left = λ z l is. let e = ap (λ (b : Journaled O A R K). b.journal.items) (one_some (Some v) v l refl is) in let none : l.journal.items ≡ [] = sym e ∙ nothing in
        record { mine_is = ap (λ js. length (own n js)) (sym none); seen_is = ap length (sym none) };
    holds = λ w is. absurd cc;
    sleeps = λ z. absurd cc;
  }

  pub new_kept : (object : O) (seats share number : ℕ) (m : Mutex (Journaled O A R K)) (s : Seat (Journaled O A R K)) → NewSeat object seats share number m s → 0 < number → number ≤ seats → PassKept (sight s) 0 0
  new_kept object seats share number m s n low high = let e = n.is.seats_are in
      subst (λ (t : Sight (Journaled O A R K)). PassKept t 0 0) (sym n.sees) (new_sight_kept n.empty seats number n.is.nothing low (omega arith))

  pub new_began : (object : O) (seats share number : ℕ) (m : Mutex (Journaled O A R K)) (s : Seat (Journaled O A R K)) → NewSeat object seats share number m s → Began object seats share (sight s)
  new_began object seats share number m s n l is = let q : n.empty ≡ l = one_some (sight s).last n.empty l (ap (λ t. t.last) n.sees) is in
      subst (λ (b : Journaled O A R K). (b.opening.value ≡ object) × (b.seats ≡ seats) × (b.share ≡ share)) q (n.is.opening, n.is.seats_are, n.is.share_is)

  pub new_of : (object opening : O) (seats wide share number : ℕ) (m : Mutex (Journaled O A R K)) (s : Seat (Journaled O A R K)) → NewSeat object seats share number m s → opening ≡ object → wide ≡ seats → Began opening wide share (sight s)
  new_of object opening seats wide share number m s n same count l is = let b = new_began object seats share number m s n l is in (b.0 ∙ sym same, b.1 ∙ sym count, b.2)
