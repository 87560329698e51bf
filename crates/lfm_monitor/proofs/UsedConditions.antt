-- The cond seat of one condition is used, and those of the other conditions don't change.
use Rattle.std.proofs.Common.{◌≡◌, ℕ, ◌+◌, ◌<◌, List, length, get_or, slice_set, refl, ap, subst, arith}
use mathlib.Core.Option.{some}
use lib.ListN.{get_elem?}
use Rattle.lfm_protocol.specs.declared.limits.Limits.{Limits}
use Rattle.lfm_mutex.specs.declared.pace.Pace.{Pace}
use Rattle.lfm_condvar.specs.declared.condvar.Condvar.{Condvar}
use Rattle.lfm_condvar.specs.declared.cond_seat.CondSeat.{CondSeat}
use Rattle.lfm_condvar.specs.Belongs.{CondWokenAsGranted, OfCondvar, cond_limits, cond_tries}
use Rattle.lfm_monitor.specs.declared.monitor.Monitor.{Monitor}
use Rattle.lfm_monitor.specs.declared.pass.Pass.{Pass}
use Rattle.lfm_monitor.specs.Belongs.{OfMonitor, cond_seats_of, conditions_in, passes_of, tries_in}
use Rattle.lfm_monitor.specs.CondSeats.{CondsWokenAsGranted, OfConditions, condition_limits}
use Rattle.lfm_mutex.proofs.runs.Woken.{polls_join, polls_none}
use Rattle.lfm_monitor.proofs.Pairing.{paired_alike, paired_join, paired_one, paired_set}
use Rattle.lfm_monitor.proofs.Places.{stands}

-- another cond seat of the same condition is put at its index
pub still_of_conditions : (cs : List CondSeat) (vs : List Condvar) (n : ℕ) (d : CondSeat) (v : Condvar) → OfConditions cs vs → get_elem? vs n ≡ some v → OfCondvar d v → OfConditions (slice_set cs n d) vs
still_of_conditions cs vs n d v of at belongs = paired_set (λ (c : CondSeat) (v : Condvar). OfCondvar c v) cs vs n d v of at belongs

-- Cond seats wake the seats that they granted the list

abbrev wakes : CondSeat → CondSeat → Type 0
wakes c d = CondWokenAsGranted c d

none_woken : (c : CondSeat) → wakes c c
none_woken c = polls_none c.seat c.seat refl refl

pub conds_woken_none : (cs ds : List CondSeat) → ds ≡ cs → CondsWokenAsGranted cs ds
conds_woken_none cs ds same = paired_alike (λ (c d : CondSeat). wakes c d) none_woken cs ds same

-- one of the cond seats was used
pub conds_woken_one : (cs : List CondSeat) (n : ℕ) (c d : CondSeat) → get_elem? cs n ≡ some c → CondWokenAsGranted c d → CondsWokenAsGranted cs (slice_set cs n d)
conds_woken_one cs n c d at woken = paired_one (λ (c d : CondSeat). wakes c d) none_woken cs n c d at woken

pub conds_woken_join : (cs ms ds : List CondSeat) → CondsWokenAsGranted cs ms → CondsWokenAsGranted ms ds → CondsWokenAsGranted cs ds
conds_woken_join cs ms ds h k = paired_join (λ (c d : CondSeat). wakes c d) (λ c m d x y. polls_join c.seat m.seat d.seat x y) cs ms ds h k

module _ {O A R : Type 0} {K : _} where
  -- the condvar of a condition, and the pass's cond seat of it
  pub record AtPlace (p : Pass O A R K) (m : Monitor O A R K) (n : ℕ) (c : CondSeat) (v : Condvar) : Type 0 where
    pub seat : get_elem? (cond_seats_of p) n ≡ some c
    pub condition : get_elem? (conditions_in m) n ≡ some v
    pub belongs : OfCondvar c v
    pub limits : cond_limits v ≡ condition_limits (passes_of m)
    pub tries : cond_tries v ≡ tries_in m

  pub at_place : (p : Pass O A R K) (m : Monitor O A R K) (n : ℕ) (c : CondSeat) (v : Condvar) → OfMonitor p m → n < length (conditions_in m) → c ≡ get_or (cond_seats_of p) n c → v ≡ get_or (conditions_in m) n v → AtPlace p m n c v
  at_place p m n c v of low is_c is_v = let a = stands (cond_seats_of p) n c (let e = of.2.morphing.long in omega arith) is_c in let b = stands (conditions_in m) n v low is_v in record {
    seat = a;
    condition = b;
    belongs = of.2.morphing.each n c v a b;
    limits = m.wide n v b;
    tries = ap (λ (pace : Pace). pace.spins + pace.naps) (m.paced n v b);
  }

  -- a property of the limits and the tries of the condvar holds of those that the monitor states
  pub as_told : (p : Pass O A R K) (m : Monitor O A R K) (n : ℕ) (c : CondSeat) (v : Condvar) (says : Limits → ℕ → Type 0) → AtPlace p m n c v → says (cond_limits v) (cond_tries v) → says (condition_limits (passes_of m)) (tries_in m)
  as_told p m n c v says a h = subst (λ (l : Limits). says l (tries_in m)) a.limits (subst (λ (k : ℕ). says (cond_limits v) k) a.tries h)
