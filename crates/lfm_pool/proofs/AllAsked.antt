-- The whole of an ask that has taken a post over: its start, and its end.
use Rattle.std.proofs.Common.{◌≡◌, ℕ, ◌+◌, ◌++◌, length, refl, ap, ◌∙◌, subst, arith, length-append}
use Rattle.std.specs.Prelude.{⊤}
use Rattle.lfm_protocol.specs.declared.points.Point.{Point}
use Rattle.lfm_protocol.specs.declared.seats.SeatState.{SeatState}
use Rattle.lfm_table.specs.declared.seat_view.View.{View}
use Rattle.lfm_pool.specs.declared.ask.Asking.{Asking}
use Rattle.lfm_pool.specs.declared.finish_ask.Finished.{Finished}
use Rattle.lfm_pool.specs.declared.pool.Pool.{Pool}
use Rattle.lfm_pool.specs.declared.pool.TableSeat.{TableSeat}
use Rattle.lfm_pool.specs.Ask.{AsksIn, MakesBesideFailuresIn}
use Rattle.lfm_pool.specs.AskAll.{TakesOverAllIn}
use Rattle.lfm_pool.specs.Belongs.{SameSeat}
use Rattle.lfm_pool.specs.FinishAsk.{FinishesIn, FinishSteps, finished}
use Rattle.lfm_pool.specs.Moves.{Made, MayStepIn}
use Rattle.lfm_pool.specs.Seats.{popped_of, state_of}
use Rattle.lfm_pool.specs.Steps.{Sits}
use Rattle.lfm_pool.specs.Tables.{part}
use Rattle.lfm_pool.proofs.Asking.{ask_count, failed_join}
use Rattle.lfm_pool.proofs.FastPaths.{both, part_now}
use Rattle.lfm_pool.proofs.Finishing.{finish_length}
use Rattle.lfm_pool.proofs.SeveralSteps.{both_made, inside, state_after}

-- the end of the call does not depend on the point
finished_anywhere : (result : Finished) (x : SeatState) (q : Point) → finished result (record x { point = q }) ≡ finished result x
finished_anywhere (Finished.Held stamp) x q = refl
finished_anywhere (Finished.Granted r) x q = refl

module _ (s t u : TableSeat) (p : Pool) (m : ℕ) (may : MayStepIn s p m) (same : SameSeat s t) (asks : AsksIn s t m Asking.Carries) (result : Finished) (ends : FinishesIn result t u p m) where
  pub takes_all : TakesOverAllIn result s u p m
  takes_all =
      let x = state_of s m in
      let e = ends.3.0 in
      let now = state_after s t p m asks.0 _ may asks.2 in
      let made = both_made s t u p m may asks.0 _ asks.2 e.0 (finished result (state_of t m)) ends.0 e.2 in (
        ends.0,
        ends.1,
        both s.number s.place.id m p.limits s.place.me t.place.me u.place.me (inside s t p m may) asks.2.0 ends.0 asks.2.1 ends.1 asks.2.2 ends.2,
        (
          (
            asks.0,
            e.0,
            popped_of t m,
            asks.1,
            subst (λ (k : ℕ). FinishSteps result k (popped_of t m) ends.0.popped e.0) same.number e.1,
            subst (λ (y : SeatState). Made (asks.0 ++ e.0) y (part s.place.me.0 m) ends.0)
                (ap (finished result) now ∙ finished_anywhere result (record x { takes = x.takes + 1 }) _) made,
          ),
          subst (λ (z : ℕ × ℕ). Sits z.0 z.1 p.limits ends.0.state ends.0) (λ i. (same.number i, same.id i)) ends.3.1,
          ends.3.2,
        ),
      )

-- The number of steps

pub all_bounded : (s u : TableSeat) (p : Pool) (m : ℕ) → MayStepIn s p m → (result : Finished) → TakesOverAllIn result s u p m → MakesBesideFailuresIn (10 + length (popped_of u m)) s u m
all_bounded s u p m may result all =
    let a = all.3.0 in
    let now = part_now s.number s.place.id m p.limits s.place.me u.place.me u.place.me (inside s u p m may) all.0 all.1 all.2 in
    let list = ap (λ (y : View ⊤). length y.popped) now in
    let first = ask_count Asking.Carries s.number a.0 a.3 in
    let later = finish_length result s.number a.2 all.0.popped a.1 a.4 in
    let long = length-append a.0 a.1 in
    let fails = failed_join a.0 a.1 in
    (a.0 ++ a.1, ap (λ (y : View ⊤). y.trail) now ∙ a.5.trail, omega (arith, first, later, long, fails, list))
