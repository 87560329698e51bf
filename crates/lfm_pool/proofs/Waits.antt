-- The calls that wait: the receives of a seat that sleeps, one after another, and the tries before a lock.
use Rattle.std.proofs.Common.{◌≡◌, ◌≢◌, ◌↔◌, Bool, true, false, IsTrue, ℕ, zero, suc, ◌+◌, ◌<◌, ◌≤◌, inl, inr, refl, sym, subst, Option, Some, None, Result, Ok, Err, arith}
use Rattle.std.proofs.lemmas.Bool.{false≢true}
use Rattle.std.specs.Result.{IsErrAnd}
use Rattle.lfm_model.specs.declared.answers.Asked.{Asked}
use Rattle.lfm_model.specs.declared.answers.How.{How}
use Rattle.lfm_model.specs.declared.answers.Locked.{Locked}
use Rattle.lfm_model.specs.declared.refusals.Refusal.{Refusal}
use Rattle.lfm_pool.specs.declared.pool.Pool.{Pool}
use Rattle.lfm_pool.specs.declared.seat.PoolSeat.{PoolSeat}
use Rattle.lfm_pool.specs.Belongs.{IsMutex}
use Rattle.lfm_pool.specs.Calls.{AsksWaking, IsBetweenCalls, Receives, SamePoolSeat, Tries}
use Rattle.lfm_pool.specs.Locks.{Awaits, BargesOn, FailsTries, FindsNothing, Locks, MayTry, TriesUpTo}
use Rattle.lfm_pool.proofs.SeveralSteps.{same_then}

-- the number of a seat of the pool
pub record IsSeatNumber (number : ℕ) (p : Pool) : Type 0 where
  pub low : 0 < number
  pub high : number ≤ p.limits.seats

module _ (s : PoolSeat) (p : Pool) (m : ℕ) (between : IsBetweenCalls s p) (mutex : IsMutex m p) where
  number_at : (o : Option ℕ) → s.asleep_in ≡ o → IsSeatNumber s.table_seat.number p
  number_at None e = let rooted = ((between.awake e).0.depths m mutex).1.sits.rooted in record { low = rooted.low; high = rooted.high }
  number_at (Some n) e = let rooted = (between.sleeps n e).0.may.sits.rooted in record { low = rooted.low; high = rooted.high }

  pub has_number : IsSeatNumber s.table_seat.number p
  has_number = number_at s.asleep_in refl

-- Receives

-- The seat was s at first. Some receives have found nothing, and it is t now.
pub record Waiting (s t : PoolSeat) (p : Pool) (m : ℕ) : Type 0 where
  pub same : SamePoolSeat s t
  pub between : IsBetweenCalls t p
  pub made : ℕ
  pub nothing : FindsNothing made s t p m

module _ (s : PoolSeat) (p : Pool) (m : ℕ) where
  -- a receive of a seat that waits is refused only if it is the first one
  refused_after : (k : ℕ) (t u : PoolSeat) → FindsNothing k s t p m → (e : Refusal) → Receives (Err e) t u p m → Awaits (Err e) s u p m
  refused_after zero t u same e did = subst (λ (x : PoolSeat). Receives (Err e) x u p m) same did
  refused_after (suc k) t u nothing Refusal.NotWaiting did = absurd (did.0 nothing.2.1)
  refused_after (suc k) t u nothing _ did = absurd did

  module _ (t u : PoolSeat) (w : Waiting s t p m) where
    pub waits_on : SamePoolSeat t u → IsBetweenCalls u p → Receives (Ok None) t u p m → Waiting s u p m
    waits_on same between did = record {
      same = same_then s.table_seat t.table_seat u.table_seat w.same same;
      between = between;
      made = suc w.made;
      nothing = (t, w.nothing, did);
    }

    pub has_waited : (how : How) → Receives (Ok (Some how)) t u p m → Awaits (Ok how) s u p m
    has_waited how did = (w.made, t, w.nothing, did)

    pub is_refused : (e : Refusal) → Receives (Err e) t u p m → Awaits (Err e) s u p m
    is_refused e did = refused_after w.made t u w.nothing e did

-- A lock

-- an ask has put the seat to sleep, and it has waited until it was granted the mutex
pub locks_asleep : (s t u : PoolSeat) (p : Pool) (m : ℕ) (how : How) → AsksWaking (Ok Asked.Asleep) s t p m → Awaits (Ok how) t u p m → Locks (Ok (Locked.Held how)) s u p m
locks_asleep s t u p m how asked awaited = inr (t, asked, awaited)

-- the ask was refused
pub locks_refused : (s t : PoolSeat) (p : Pool) (m : ℕ) (refusal : Refusal) (r : Result Locked Refusal) → IsErrAnd r (λ e. e ≡ refusal) → AsksWaking (Err refusal) s t p m → Locks r s t p m
locks_refused s t p m refusal (Ok locked) is asked = absurd is
locks_refused s t p m refusal (Err e) is asked = subst (λ (x : Refusal). AsksWaking (Err x) s t p m) (sym is) asked

-- Tries

module _ (p : Pool) (m : ℕ) where
  -- failed tries, and then further ones
  fails_on : (j k : ℕ) (s t u : PoolSeat) → FailsTries j s t p m → FailsTries k t u p m → (i : ℕ) × (i ≡ j + k) × FailsTries i s u p m
  fails_on j zero s t u before none = (j, omega arith, subst (λ (x : PoolSeat). FailsTries j s x p m) (sym none) before)
  fails_on j (suc k) s t u before after =
      let made = fails_on j k s t after.0 before after.1 in
      (suc made.0, omega (arith, made.1), (after.0, made.2, after.2))

  -- what tries that have all failed are
  have_failed : (n : ℕ) (s t : PoolSeat) → TriesUpTo n (Err Refusal.Busy) s t p m → (k : ℕ) × (k ≤ n) × FailsTries k s t p m
  have_failed n s t (inl h) = h.1
  have_failed n s t (inr h) = absurd (h.0 refl)

  pub no_tries : (s t : PoolSeat) → t ≡ s → TriesUpTo 0 (Err Refusal.Busy) s t p m
  no_tries s t same = inl (refl, (0, omega arith, same))

  -- tries that have all failed, and then further ones
  pub tries_join : (a b n : ℕ) (s t u : PoolSeat) (r : Result Locked Refusal) → a + b ≤ n → TriesUpTo a (Err Refusal.Busy) s t p m → TriesUpTo b r t u p m → TriesUpTo n r s u p m
  tries_join a b n s t u r few before (inl h) =
      let failed = have_failed a s t before in
      let made = fails_on failed.0 h.1.0 s t u failed.2 h.1.2 in
      inl (h.0, (made.0, omega (arith, few, failed.1, h.1.1, made.1), made.2))
  tries_join a b n s t u r few before (inr h) =
      let failed = have_failed a s t before in
      let made = fails_on failed.0 h.1.0 s t h.1.1 failed.2 h.1.3 in
      inr (h.0, (made.0, h.1.1, omega (arith, few, failed.1, h.1.2, made.1), made.2, h.1.4))

  pub tries_fewer : (a n : ℕ) (s t : PoolSeat) (r : Result Locked Refusal) → a ≤ n → TriesUpTo a r s t p m → TriesUpTo n r s t p m
  tries_fewer a n s t r few did = tries_join 0 a n s s t r (omega (arith, few)) (no_tries s s refl) did

  -- at most one try
  tries_once : (s t : PoolSeat) (r : Result Locked Refusal) (busy : Bool) → (IsTrue busy ↔ (r ≡ Err Refusal.Busy)) → MayTry r s t p m → TriesUpTo 1 r s t p m
  tries_once s t r busy is (inl h) = inl (h.0, (0, omega arith, h.1))
  tries_once s t r true is (inr did) = inl (is.0 refl, (1, omega arith, (s, refl, subst (λ (x : Result Locked Refusal). Tries x s t p m) (is.0 refl) did)))
  tries_once s t r false is (inr did) = inr (λ same. false≢true (is.1 same), (0, s, omega arith, refl, did))

  pub when_busy : (n : ℕ) (s t : PoolSeat) (r : Result Locked Refusal) → (IsTrue true ↔ (r ≡ Err Refusal.Busy)) → TriesUpTo n r s t p m → TriesUpTo n (Err Refusal.Busy) s t p m
  when_busy n s t r is tried = subst (λ (x : Result Locked Refusal). TriesUpTo n x s t p m) (is.0 refl) tried

  module _ (a n : ℕ) (s t u : PoolSeat) (r : Result Locked Refusal) (few : a + 1 ≤ n) where
    -- tries that have all failed, and then one more that fails
    pub fails_again : (IsTrue true ↔ (r ≡ Err Refusal.Busy)) → TriesUpTo a (Err Refusal.Busy) s t p m → MayTry r t u p m → TriesUpTo n (Err Refusal.Busy) s u p m
    fails_again is before did = when_busy n s u r is (tries_join a 1 n s t u r few before (tries_once t u r true is did))

    -- tries that have all failed, and then one that does not
    pub ends_by_try : (IsTrue false ↔ (r ≡ Err Refusal.Busy)) → TriesUpTo a (Err Refusal.Busy) s t p m → MayTry r t u p m → TriesUpTo n r s u p m
    ends_by_try is before did = tries_join a 1 n s t u r few before (tries_once t u r false is did)

  module _ (n : ℕ) (s t : PoolSeat) (r : Result Locked Refusal) where
    -- one of the tries has acquired the mutex, or was refused for another reason than Busy
    pub barges_by_try : TriesUpTo n r s t p m → r ≢ Err Refusal.Busy → BargesOn n r s t p m
    barges_by_try (inl h) other = absurd (other h.0)
    barges_by_try (inr h) other = (h.1.0, h.1.1, h.1.3, inl (h.1.2, h.1.4, other))

    -- all tries have failed, and a lock was made
    pub barges_by_lock : (u : PoolSeat) → TriesUpTo n (Err Refusal.Busy) s u p m → Locks r u t p m → BargesOn n r s t p m
    barges_by_lock u tried did = let failed = have_failed n s u tried in (failed.0, u, failed.2, inr (failed.1, did))
