-- Ops that are applied again and again until the reply is accepted, with a wait on a condition before each further try.
use Rattle.std.specs.Prelude.{◌≡◌, ◌⊎◌, ℕ, ◌<◌, zero, suc, Bool, true, false, Result, Ok, Err}
use Rattle.lfm_model.specs.declared.answers.How.{How}
use Rattle.lfm_model.specs.declared.refusals.Refusal.{Refusal}
use Rattle.lfm_plain_condvar.specs.declared.wait_for.Waited.{Waited}
use Rattle.lfm_monitor.specs.declared.monitor.Monitor.{Monitor}
use Rattle.lfm_monitor.specs.declared.pass.Pass.{Pass}
use Rattle.lfm_monitor.specs.Belongs.{OfMonitor, SameCondSeats, cond_seats_of, conditions_of, mine_of, mutex_limits, pass_sight, passes_of, plain_conditions_of, plain_seats_of, seen_of, share_of, tries_in}
use Rattle.lfm_monitor.specs.CondSeats.{condition_limits}
use Rattle.lfm_monitor.specs.Conditions.{WaitEnds, WaitReturns}
use Rattle.lfm_monitor.specs.Passes.{ApplyEnds}
use Rattle.lfm_monitor.specs.PlainConditions.{PlainWaitEnds, PlainWaitWithinEnds}

module _ {O A R : Type 0} {K : _} where
  -- how a wait of the pass on this condition ended, if the conditions of the monitor are not plain
  abbrev pub WaitsOn : Monitor O A R K → ℕ → Pass O A R K → Pass O A R K → Result (How × ℕ) Refusal → Type 0
  WaitsOn m condition p q r =
      WaitEnds (mutex_limits m) (condition_limits (passes_of m)) (tries_in m) (share_of m) (conditions_of m) condition (cond_seats_of p) (cond_seats_of q) (pass_sight p) (pass_sight q) (mine_of p) r

  -- the same if they are plain
  abbrev pub WaitsOnPlain : Monitor O A R K → ℕ → Pass O A R K → Pass O A R K → Result (How × ℕ) Refusal → Type 0
  WaitsOnPlain m condition p q r =
      PlainWaitEnds (mutex_limits m) (condition_limits (passes_of m)) (tries_in m) (share_of m) (plain_conditions_of m) condition (plain_seats_of p) (plain_seats_of q) (pass_sight p) (pass_sight q) (mine_of p) r

  -- the same for a wait with a time limit
  abbrev pub WaitsWithin : Monitor O A R K → ℕ → Pass O A R K → Pass O A R K → Result (How × Waited) Refusal → Type 0
  WaitsWithin m condition p q r =
      PlainWaitWithinEnds (mutex_limits m) (condition_limits (passes_of m)) (tries_in m) (share_of m) (plain_conditions_of m) condition (plain_seats_of p) (plain_seats_of q) (pass_sight p) (pass_sight q) (mine_of p) r

  -- how a wait of the pass on this condition ended
  abbrev pub Waits : Monitor O A R K → ℕ → Pass O A R K → Pass O A R K → Result (How × ℕ) Refusal → Type 0
  Waits m condition p q r =
      (plain_conditions_of m ≡ 0 → WaitsOn m condition p q r) × (0 < plain_conditions_of m → WaitsOnPlain m condition p q r)
      × WaitReturns (pass_sight p) (pass_sight q) (seen_of p) (seen_of q) (mine_of p) (mine_of q) r

module _ {O A R : Type 0} {K : _} (after : O → A → O) (reply : O → A → R) (m : Monitor O A R K) where
  -- how one op of the pass ended
  abbrev pub Tries : A → Pass O A R K → Pass O A R K → Result R Refusal → Type 0
  Tries op p q r =
      ApplyEnds after reply (share_of m) op (pass_sight p) (pass_sight q) (mine_of p) (mine_of q) r × (seen_of q ≡ seen_of p) × SameCondSeats p q

  -- the last call of the pass applied this op, with this reply
  abbrev pub AppliedLast : A → Pass O A R K → R → Type 0
  AppliedLast op q r = (p : Pass O A R K) × OfMonitor p m × Tries op p q (Ok r)

  module _ (condition : ℕ) (op : A) (says : R → Bool → Type 0) where
    -- a failed try: the pass applied the op, its reply was not accepted, and the pass waited on the condition
    pub record FailedTry (p q : Pass O A R K) : Type 0 where
      pub tried : Pass O A R K
      pub replied : R
      pub waited : How × ℕ
      pub tries : Tries op p tried (Ok replied)
      pub other : says replied false
      pub waits : Waits m condition tried q (Ok waited)

    -- the pass was p before this number of failed tries, and q after them
    abbrev pub FailedTries : ℕ → Pass O A R K → Pass O A R K → Type 0
    FailedTries zero p q = q ≡ p
    FailedTries (suc n) p q = (m : Pass O A R K) × FailedTries n p m × FailedTry m q

    -- how the last try ended: with an accepted reply, or refused, or with a reply that was not accepted and a refused wait
    abbrev pub LastEnds : Pass O A R K → Pass O A R K → Result R Refusal → Type 0
    LastEnds p q (Ok r) = Tries op p q (Ok r) × says r true
    LastEnds p q (Err r) = Tries op p q (Err r) ⊎ ((tried : Pass O A R K) × (replied : R) × Tries op p tried (Ok replied) × says replied false × Waits m condition tried q (Err r))

    -- some failed tries, and the last one
    abbrev pub ApplyUntilEnds : Pass O A R K → Pass O A R K → Result R Refusal → Type 0
    ApplyUntilEnds p q r = (n : ℕ) × (last : Pass O A R K) × OfMonitor last m × FailedTries n p last × LastEnds last q r
