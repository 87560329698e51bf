-- Any two proofs that no call of a seat of a pool is open are equal. So a seat that keeps only that there is one has it.
use Rattle.std.specs.Bool.{⊤}
use Rattle.std.proofs.Common.{◌≡◌, ℕ, zero, suc, ◌+◌, ◌-◌, ◌*◌, ◌<◌, sym, refl, ap, ◌∙◌, arith}
use Rattle.std.proofs.Props.{props}
use Rattle.std.proofs.Math.Logic.{∥∥₁_elim}
use Rattle.std.specs.Coded.{Coded-set}
use mathlib.Core.HLevel.{is_prop→PathP}
use Rattle.atomic_table.specs.Seated.{table_id_coded}
use Rattle.atomic_table.specs.Table.{Me}
use Rattle.lfm_protocol.specs.declared.limits.Limits.{Limits}
use Rattle.lfm_protocol.specs.declared.points.Point.{Point}
use Rattle.lfm_protocol.specs.declared.points.Point.TheVariants.{Asleep}
use Rattle.lfm_protocol.specs.declared.points.Sleeper.{Sleeper}
use Rattle.lfm_protocol.specs.declared.seats.SeatState.{SeatState}
use Rattle.lfm_protocol.specs.contracts.points.Point.{the_row as point_row}
use Rattle.lfm_protocol.specs.contracts.points.Sleeper.{the_row as sleeper_row}
use Rattle.lfm_protocol.specs.contracts.seats.SeatState.{the_row as state_row}
use Rattle.lfm_table.specs.declared.seat_view.View.{View}
use Rattle.lfm_table.specs.FastPath.{Fit}
use Rattle.lfm_table.specs.Props.{Became-prop, IsReady-prop}
use Rattle.lfm_table.specs.Seats.{Rooted, Seated}
use Rattle.lfm_table.proofs.tables.StepFacts.{became_depth}
use Rattle.lfm_pool.specs.declared.pool.Pool.{Pool}
use Rattle.lfm_pool.specs.declared.pool.TableSeat.{TableSeat}
use Rattle.lfm_pool.specs.declared.seat.PoolSeat.{PoolSeat}
use Rattle.lfm_pool.specs.declared.view.Note.{Note}
use Rattle.lfm_pool.specs.AnyDepth.{IsAtRest, IsAwayIn}
use Rattle.lfm_pool.specs.Belongs.{OfPool}
use Rattle.lfm_pool.specs.Calls.{IsBetweenCalls}
use Rattle.lfm_pool.specs.Chain.{first_seat}
use Rattle.lfm_pool.specs.Counts.{CountsTakes}
use Rattle.lfm_pool.specs.Depths.{HasDepth, HasDepthIn}
use Rattle.lfm_pool.specs.Moves.{MayStepIn}
use Rattle.lfm_pool.specs.SeatWords.{Sleeps}
use Rattle.lfm_pool.specs.Tables.{Slot}

SeatState-set : IsSet SeatState
SeatState-set = Coded-set state_row.coded

Point-set : IsSet Point
Point-set = Coded-set point_row.coded

Sleeper-set : IsSet Sleeper
Sleeper-set = Coded-set sleeper_row.coded

Seated-prop : (number : ℕ) (l : Limits) (p : SeatState) (m : Me Slot (View ⊤)) (a : Slot) → IsProp (Seated number l p m a)
Seated-prop number l p m a = hlevel props

Rooted-prop : (words id number : ℕ) (l : Limits) (v : View ⊤) → IsProp (Rooted words id number l v)
Rooted-prop words id number l v = hlevel props

Fit-prop : (number words id : ℕ) (l : Limits) (p : SeatState) (m : Me Slot (View ⊤)) (a : Slot) → IsProp (Fit number words id l p m a)
Fit-prop number words id l p m a u v =
    λ i. record {
      seated = Seated-prop number l p m a u.seated v.seated i;
      became = Became-prop SeatState-set m.0.state l p u.became v.became i;
      ready = IsReady-prop l.seats number p u.ready v.ready i;
      rooted = Rooted-prop words id number l m.0 u.rooted v.rooted i;
    }

HasDepth-prop : (number id : ℕ) (l : Limits) (v : View ⊤) (note : Note) (d : ℕ) → IsProp (HasDepth number id l v note d)
HasDepth-prop number id l v note d = hlevel (props, Fit-prop, Point-set)

-- no seat at rest holds a mutex and does not hold it
differs : (v : View ⊤) (number id : ℕ) (l : Limits) (note : Note) (d : ℕ) → HasDepth number id l v note 0 → HasDepth number id l v note (suc d) → ⊥
differs v number id l note d u w =
    let flat = became_depth v.state l (record v.state { depth = 0 }) u.now.became refl in let above = w.now.became.deep in omega (arith, flat, above)

one_depth : (v : View ⊤) (number id : ℕ) (l : Limits) (note : Note) (d e : ℕ) → HasDepth number id l v note d → HasDepth number id l v note e → d ≡ e
one_depth v number id l note zero zero u w = refl
one_depth v number id l note zero (suc e) u w = absurd (differs v number id l note e u w)
one_depth v number id l note (suc d) zero u w = absurd (differs v number id l note d w u)
one_depth v number id l note (suc d) (suc e) u w =
    let carried : (suc d - 1) * 65536 + first_seat v.popped ≡ (suc e - 1) * 65536 + first_seat v.popped = ap (λ (n : Note). n.carried) (sym (u.noted (omega arith)) ∙ w.noted (omega arith)) in
    omega (arith, carried)

Depth-prop : (s : TableSeat) (p : Pool) (m : ℕ) → IsProp ((d : ℕ) × HasDepthIn s p m d)
Depth-prop s p m u w =
    let e = one_depth _ _ _ _ _ u.0 w.0 u.1 w.1 in
    λ i. (e i, is_prop→PathP (λ j. HasDepthIn s p m (e j)) (λ j. HasDepth-prop _ _ _ _ _ (e j)) u.1 w.1 i)

abbrev sleeper_of : Sleeper → Point → Sleeper
sleeper_of k (Asleep sleeper) = sleeper
sleeper_of k _ = k

Sleeps-prop : (p : SeatState) → IsProp (Sleeps p)
Sleeps-prop p u w =
    let e : u.0 ≡ w.0 = ap (sleeper_of u.0) (sym u.1 ∙ w.1) in
    λ i. (e i, is_prop→PathP (λ j. p.point ≡ Asleep (e j)) (λ j. Point-set _ _) u.1 w.1 i)

OfPool-prop : (s : TableSeat) (p : Pool) → IsProp (OfPool s p)
OfPool-prop s p = hlevel (props, table_id_coded)

IsAtRest-prop : (s : TableSeat) (p : Pool) → IsProp (IsAtRest s p)
IsAtRest-prop s p = hlevel (props, OfPool-prop, Depth-prop)

MayStepIn-prop : (s : TableSeat) (p : Pool) (m : ℕ) → IsProp (MayStepIn s p m)
MayStepIn-prop s p m = hlevel (props, OfPool-prop, Fit-prop)

IsAwayIn-prop : (s : TableSeat) (p : Pool) (m : ℕ) → IsProp (IsAwayIn s p m)
IsAwayIn-prop s p m = hlevel (props, MayStepIn-prop, Depth-prop)

CountsTakes-prop : (takes waits : ℕ) (s : TableSeat) (p : Pool) → IsProp (CountsTakes takes waits s p)
CountsTakes-prop takes waits s p = hlevel props

IsBetweenCalls-prop : (s : PoolSeat) (p : Pool) → IsProp (IsBetweenCalls s p)
IsBetweenCalls-prop s p = hlevel (props, IsAtRest-prop, IsAwayIn-prop, Sleeps-prop, CountsTakes-prop)

-- the fact, of a seat that keeps only that it has a proof
pub between : (s : PoolSeat) (p : Pool) → ∥ IsBetweenCalls s p ∥₁ → IsBetweenCalls s p
between s p kept = ∥∥₁_elim kept (IsBetweenCalls-prop s p) (λ x. x)
