-- Critical sections: a pass enters, a section is executed, and the pass gives up the holds that it has beyond those it had
-- before.
use Rattle.std.specs.Prelude.{◌≡◌, ◌⊎◌, ℕ, ◌<◌, ◌≤◌, min, Result, Ok, Err}
use Rattle.lfm_model.specs.declared.answers.Locked.{Locked}
use Rattle.lfm_model.specs.declared.refusals.Refusal.{Refusal}
use Rattle.lfm_monitor.specs.declared.monitor.Monitor.{Monitor}
use Rattle.lfm_monitor.specs.declared.pass.Pass.{Pass}
use Rattle.lfm_monitor.specs.Belongs.{OfMonitor, PassPollsAndWakesAsGranted, PassRunGoesOnFrom, PassWokenAsGranted, SameCondSeats, mine_of, mutex_limits, pass_sight, seen_of, share_of, tries_in}
use Rattle.lfm_monitor.specs.Passes.{EnterEnds, EnterRefused, journal_of}
use Rattle.lfm_monitor.specs.Steps.{ByBarging, ByUnlocks}

module _ {O A R : Type 0} {K : _} where
  -- nothing that can be read from a pass has changed
  abbrev pub SamePass : Pass O A R K → Pass O A R K → Type 0
  SamePass p q = (pass_sight q ≡ pass_sight p) × (mine_of q ≡ mine_of p) × (seen_of q ≡ seen_of p) × SameCondSeats p q

  -- The pass has given up some of its holds, or none, and has woken exactly those that it granted the monitor. The journal that
  -- it holds, or last left, is the one that it held, and nothing else of it has changed
  pub record GivesUp (p q : Pass O A R K) : Type 0 where
    pub no_more : (pass_sight q).depth ≤ (pass_sight p).depth
    pub number : (pass_sight q).number ≡ (pass_sight p).number
    pub takes : (pass_sight q).takes ≡ (pass_sight p).takes
    pub asleep : (pass_sight q).asleep ≡ (pass_sight p).asleep
    pub sends : (pass_sight q).sends ≡ (pass_sight p).sends
    pub journal : journal_of (pass_sight q) ≡ journal_of (pass_sight p)
    pub woken : PassWokenAsGranted p q
    pub run : PassRunGoesOnFrom p q
    pub seen : 0 < (pass_sight q).depth → seen_of q ≡ seen_of p
    pub mine : mine_of q ≡ mine_of p
    pub cond_seats : SameCondSeats p q

  -- the pass has given up each of its holds above this depth
  abbrev pub GivesUpTo : ℕ → Pass O A R K → Pass O A R K → Type 0
  GivesUpTo depth p q = GivesUp p q × ((pass_sight q).depth ≡ min (pass_sight p).depth depth)

module _ {O A R U : Type 0} {K : _} (m : Monitor O A R K) (makes : Pass O A R K → Pass O A R K → Result U Refusal → Type 0) where
  -- The pass entered as `enter` does, by the steps of a lock that tries before it queues. Then the section changed the pass as
  -- it may, and returned r. Then the pass gave up its holds down to the depth that it had before, by the steps of `leave` alone
  pub record Holds (p q : Pass O A R K) (r : Result U Refusal) : Type 0 where
    pub entered : Pass O A R K
    pub executed : Pass O A R K
    pub locked : Locked
    pub enters : EnterEnds (share_of m) (pass_sight p) (pass_sight entered) (mine_of p) (mine_of entered) (Ok locked)
    pub steps : ByBarging (mutex_limits m) (tries_in m) (pass_sight p) (pass_sight entered) (Ok locked)
    pub keeps : (seen_of entered ≡ seen_of p) × SameCondSeats p entered
    pub woken : PassPollsAndWakesAsGranted p entered
    pub run : PassRunGoesOnFrom p entered
    pub belong : OfMonitor entered m × OfMonitor executed m
    pub executes : makes entered executed r
    pub leaves : GivesUpTo (pass_sight p).depth executed q
    pub left : (n : ℕ) × ByUnlocks (mutex_limits m) n (pass_sight executed) (pass_sight q)

  -- how `hold` ends: with what the section returned, or refused as `enter` is, with nothing changed
  abbrev pub HoldEnds : Pass O A R K → Pass O A R K → Result U Refusal → Type 0
  HoldEnds p q (Ok x) = Holds p q (Ok x)
  HoldEnds p q (Err r) = Holds p q (Err r) ⊎ (EnterRefused (share_of m) (pass_sight p) (mine_of p) r × SamePass p q × PassPollsAndWakesAsGranted p q × PassRunGoesOnFrom p q)
