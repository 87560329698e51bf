-- The pace of each condition is set. The conditions stay the same, and the passes and their seats still belong to them.
use Rattle.std.proofs.Common.{◌≡◌, ℕ, ◌<◌, ◌≤◌, List, length, refl, sym, ◌∙◌, ap, subst, arith, Vec}
use Rattle.std.proofs.lemmas.List.{with_items_is}
use Rattle.std.specs.Global.{Global}
use Rattle.std.specs.Vec.{with_items}
use mathlib.Core.Option.{some}
use lib.ListN.{get_elem?}
use Rattle.lfm_mutex.specs.declared.mutex.Mutex.{Mutex}
use Rattle.lfm_mutex.specs.Belongs.{OfMutex, limits_of}
use Rattle.lfm_mutex.specs.calls.Sight.{sight}
use Rattle.lfm_condvar.specs.declared.condvar.Condvar.{Condvar}
use Rattle.lfm_condvar.specs.declared.cond_seat.CondSeat.{CondSeat}
use Rattle.lfm_condvar.specs.Belongs.{OfCondvar, cond_sight}
use Rattle.lfm_condvar.specs.Holds.{MadeFor}
use Rattle.lfm_plain_condvar.specs.declared.condvar.PlainCondvar.{PlainCondvar}
use Rattle.lfm_plain_condvar.specs.declared.parkers.Parkers.{Parkers}
use Rattle.lfm_plain_condvar.specs.declared.plain_seat.PlainSeat.{PlainSeat}
use Rattle.lfm_plain_condvar.specs.Belongs.{HasWaker, OfPlain}
use Rattle.lfm_plain_condvar.specs.Holds.{SeatKept}
use Rattle.lfm_monitor.specs.declared.journaled.Journaled.{Journaled}
use Rattle.lfm_monitor.specs.declared.monitor.Monitor.{Monitor}
use Rattle.lfm_monitor.specs.declared.pass.Pass.{Pass}
use Rattle.lfm_monitor.specs.Belongs.{OfAllConditions, OfMonitor, cond_seats_of, conditions_in, opening_of, plain_conditions_in, plain_seats_of, share_of}
use Rattle.lfm_monitor.specs.CondSeats.{AreConditions, OfConditions, SameButPace, SameButPaces}
use Rattle.lfm_monitor.specs.Pairs.{Each, Pairwise}
use Rattle.lfm_monitor.specs.Passes.{Began}
use Rattle.lfm_monitor.specs.PlainSeats.{ArePlainConditions, OfPlainConditions, SamePlainButPace, SamePlainButPaces}
use Rattle.lfm_monitor.proofs.Pairing.{partner}
use Rattle.lfm_monitor.proofs.Places.{in_range}

pub same_condition : (v : Condvar) → SameButPace v v
same_condition v = record { table = refl; limits = refl; seats = refl }

pub same_conditions : (u v w : Condvar) → SameButPace u v → SameButPace v w → SameButPace u w
same_conditions u v w a b = record { table = b.table ∙ a.table; limits = b.limits ∙ a.limits; seats = b.seats ∙ a.seats }

pub same_plain : (v : PlainCondvar) → SamePlainButPace v v
same_plain v = record { table = refl; limits = refl; parkers = refl }

pub same_plains : (u v w : PlainCondvar) → SamePlainButPace u v → SamePlainButPace v w → SamePlainButPace u w
same_plains u v w a b = record { table = b.table ∙ a.table; limits = b.limits ∙ a.limits; parkers = b.parkers ∙ a.parkers }

module _ {A : Type 0} (same : A → A → Type 0) where
  -- all items were set, and are in the list again
  pub all_set : (v : Vec A Global) (xs : List A) → Pairwise same v.items xs → Pairwise same v.items (with_items v xs).items
  all_set v xs alike = subst (λ (l : List A). Pairwise same v.items l) (sym (with_items_is v xs (sym alike.long ∙ sym v.ok.0))) alike

  pub all_have : (has : A → Type 0) (v : Vec A Global) (xs : List A) (n : ℕ) → Pairwise same v.items xs → length xs ≤ n → ((i : ℕ) (u : A) → i < n → get_elem? xs i ≡ some u → has u) → Each has (with_items v xs).items
  all_have has v xs n alike end before = subst (λ (l : List A). Each has l) (sym (with_items_is v xs (sym alike.long ∙ sym v.ok.0)))
      (λ i u at. before i u (let low = in_range xs i u at in omega arith) at)

-- the limits of the conditions are as before
pub still_conditions : (seats : ℕ) (us vs : List Condvar) → SameButPaces us vs → AreConditions seats us → AreConditions seats vs
still_conditions seats us vs same wide i v at = let e = partner (λ (u v : Condvar). SameButPace u v) us vs i v same at in e.2.limits ∙ wide i e.0 e.1

pub still_plain_conditions : (seats : ℕ) (us vs : List PlainCondvar) → SamePlainButPaces us vs → ArePlainConditions seats us → ArePlainConditions seats vs
still_plain_conditions seats us vs same wide i v at = let e = partner (λ (u v : PlainCondvar). SamePlainButPace u v) us vs i v same at in e.2.limits ∙ wide i e.0 e.1

-- the seats of a condition still belong to it

still_of_condvar : (c : CondSeat) (u v : Condvar) → SameButPace u v → OfCondvar c u → OfCondvar c v
still_of_condvar c u v same of = (
  (of.0.0 ∙ ap (λ t. t.table_id) (sym same.table), of.0.1 ∙ sym same.limits),
  subst (λ l. MadeFor l (cond_sight c)) (sym same.limits) of.1,
)

still_of_these : (cs : List CondSeat) (us vs : List Condvar) → SameButPaces us vs → OfConditions cs us → OfConditions cs vs
still_of_these cs us vs same of = record {
  long = of.long ∙ same.long;
  each = λ i c v ac av. let e = partner (λ (u v : Condvar). SameButPace u v) us vs i v same av in still_of_condvar c e.0 v e.2 (of.each i c e.0 ac e.1);
}

still_of_plain : (c : PlainSeat) (u v : PlainCondvar) → SamePlainButPace u v → OfPlain c u → OfPlain c v
still_of_plain c u v same of = let has = (λ (p : Parkers). (SeatKept p.table.shared.table_id p.seats (sight c.seat) × (c.log.seat.table_id ≡ p.table.shared.table_id)) × HasWaker c p) in
    let now = subst has (sym same.parkers) ((of.0.1, of.0.2), of.1) in
    (((of.0.0.0 ∙ ap (λ t. t.table_id) (sym same.table), of.0.0.1 ∙ sym same.limits), now.0.0, now.0.1), now.1)

still_of_these_plain : (cs : List PlainSeat) (us vs : List PlainCondvar) → SamePlainButPaces us vs → OfPlainConditions cs us → OfPlainConditions cs vs
still_of_these_plain cs us vs same of = record {
  long = of.long ∙ same.long;
  each = λ i c v ac av. let e = partner (λ (u v : PlainCondvar). SamePlainButPace u v) us vs i v same av in still_of_plain c e.0 v e.2 (of.each i c e.0 ac e.1);
}

module _ {O A R : Type 0} {K : _} where
  -- the passes of the monitor still belong to it
  pub still_of_monitor : (p : Pass O A R K) (m : Monitor O A R K) (mutex : Mutex (Journaled O A R K)) (conditions : List Condvar) (plains : List PlainCondvar) → mutex.table ≡ m.mutex.table → mutex.limits ≡ m.mutex.limits → SameButPaces (conditions_in m) conditions
      → SamePlainButPaces (plain_conditions_in m) plains → OfMonitor p m
      → OfMutex p.seat mutex × Began (opening_of m) (limits_of mutex).seats (share_of m) (sight p.seat) × OfAllConditions (cond_seats_of p) conditions (plain_seats_of p) plains
  still_of_monitor p m mutex conditions plains table limits same plain of = (
    (of.0.0 ∙ ap (λ t. t.table_id) (sym table), of.0.1 ∙ sym limits),
    (λ l is. let began = of.1 l is in (began.0, began.1 ∙ ap (λ l. l.seats) (sym limits), began.2)),
    record { morphing = still_of_these (cond_seats_of p) (conditions_in m) conditions same of.2.morphing; plain = still_of_these_plain (plain_seats_of p) (plain_conditions_in m) plains plain of.2.plain },
  )
