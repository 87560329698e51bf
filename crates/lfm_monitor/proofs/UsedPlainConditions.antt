-- The plain seat of one plain condition is used, and those of the other conditions don't change.
use Rattle.std.proofs.Common.{◌≡◌, ℕ, ◌+◌, ◌<◌, List, length, get_or, slice_set, refl, ap, subst, arith}
use mathlib.Core.Option.{some}
use lib.ListN.{get_elem?}
use Rattle.lfm_protocol.specs.declared.limits.Limits.{Limits}
use Rattle.lfm_mutex.specs.declared.pace.Pace.{Pace}
use Rattle.lfm_mutex.specs.Belongs.{limits_of, tries_of}
use Rattle.lfm_plain_condvar.specs.declared.condvar.PlainCondvar.{PlainCondvar}
use Rattle.lfm_plain_condvar.specs.declared.plain_seat.PlainSeat.{PlainSeat}
use Rattle.lfm_plain_condvar.specs.Belongs.{OfPlain}
use Rattle.lfm_monitor.specs.declared.monitor.Monitor.{Monitor}
use Rattle.lfm_monitor.specs.declared.pass.Pass.{Pass}
use Rattle.lfm_monitor.specs.Belongs.{OfMonitor, passes_of, plain_conditions_in, plain_seats_of, tries_in}
use Rattle.lfm_monitor.specs.CondSeats.{condition_limits}
use Rattle.lfm_monitor.specs.PlainSeats.{OfPlainConditions, PlainSeatsWokenAsGranted, PlainWokenAsGranted}
use Rattle.lfm_mutex.proofs.runs.Woken.{polls_join, polls_none}
use Rattle.lfm_monitor.proofs.Pairing.{paired_alike, paired_join, paired_one, paired_set}
use Rattle.lfm_monitor.proofs.Places.{stands}

-- another plain seat of the same condition is put at its index
pub still_of_plain_conditions : (cs : List PlainSeat) (vs : List PlainCondvar) (n : ℕ) (d : PlainSeat) (v : PlainCondvar) → OfPlainConditions cs vs → get_elem? vs n ≡ some v → OfPlain d v → OfPlainConditions (slice_set cs n d) vs
still_of_plain_conditions cs vs n d v of at belongs = paired_set (λ (c : PlainSeat) (v : PlainCondvar). OfPlain c v) cs vs n d v of at belongs

-- Plain seats wake the seats that they granted the list

abbrev wakes : PlainSeat → PlainSeat → Type 0
wakes c d = PlainWokenAsGranted c d

none_woken : (c : PlainSeat) → wakes c c
none_woken c = polls_none c.seat c.seat refl refl

pub plain_woken_none : (cs ds : List PlainSeat) → ds ≡ cs → PlainSeatsWokenAsGranted cs ds
plain_woken_none cs ds same = paired_alike (λ (c d : PlainSeat). wakes c d) none_woken cs ds same

-- one of the plain seats was used
pub plain_woken_one : (cs : List PlainSeat) (n : ℕ) (c d : PlainSeat) → get_elem? cs n ≡ some c → PlainWokenAsGranted c d → PlainSeatsWokenAsGranted cs (slice_set cs n d)
plain_woken_one cs n c d at woken = paired_one (λ (c d : PlainSeat). wakes c d) none_woken cs n c d at woken

pub plain_woken_join : (cs ms ds : List PlainSeat) → PlainSeatsWokenAsGranted cs ms → PlainSeatsWokenAsGranted ms ds → PlainSeatsWokenAsGranted cs ds
plain_woken_join cs ms ds h k = paired_join (λ (c d : PlainSeat). wakes c d) (λ c m d x y. polls_join c.seat m.seat d.seat x y) cs ms ds h k

module _ {O A R : Type 0} {K : _} where
  -- the condvar of a condition, and the pass's plain seat of it
  pub record AtPlainPlace (p : Pass O A R K) (m : Monitor O A R K) (n : ℕ) (c : PlainSeat) (v : PlainCondvar) : Type 0 where
    pub seat : get_elem? (plain_seats_of p) n ≡ some c
    pub condition : get_elem? (plain_conditions_in m) n ≡ some v
    pub belongs : OfPlain c v
    pub limits : limits_of v.inner ≡ condition_limits (passes_of m)
    pub tries : tries_of v.inner ≡ tries_in m

  pub at_plain_place : (p : Pass O A R K) (m : Monitor O A R K) (n : ℕ) (c : PlainSeat) (v : PlainCondvar) → OfMonitor p m → n < length (plain_conditions_in m) → c ≡ get_or (plain_seats_of p) n c → v ≡ get_or (plain_conditions_in m) n v → AtPlainPlace p m n c v
  at_plain_place p m n c v of low is_c is_v = let a = stands (plain_seats_of p) n c (let e = of.2.plain.long in omega arith) is_c in let b = stands (plain_conditions_in m) n v low is_v in record {
    seat = a;
    condition = b;
    belongs = of.2.plain.each n c v a b;
    limits = m.plain_wide n v b;
    tries = ap (λ (pace : Pace). pace.spins + pace.naps) (m.plain_paced n v b);
  }

  -- a property of the limits and the tries of the condvar holds of those that the monitor states
  pub as_plain_told : (p : Pass O A R K) (m : Monitor O A R K) (n : ℕ) (c : PlainSeat) (v : PlainCondvar) (says : Limits → ℕ → Type 0) → AtPlainPlace p m n c v → says (limits_of v.inner) (tries_of v.inner) → says (condition_limits (passes_of m)) (tries_in m)
  as_plain_told p m n c v says a h = subst (λ (l : Limits). says l (tries_in m)) a.limits (subst (λ (k : ℕ). says (limits_of v.inner) k) a.tries h)
