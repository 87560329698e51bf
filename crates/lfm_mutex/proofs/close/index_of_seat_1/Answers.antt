use Rattle.std.proofs.Common.{rules, ap, ◌∙◌, sym, get_or, ◌≢◌, ◌+◌, ℕ}
use lib.ListN.{get_elem?}
use Rattle.lfm_mutex.proofs.ends.Ends.{up_to, each_of, item_at}
use Rattle.lfm_mutex.proofs.close.index_of_seat_1.Goals as goal

pub returns-then-number_of-eq1 : goal.returns-then-number_of-eq1
returns-then-number_of-eq1 g c = (c.seat-item.result, ap (get_elem? c.args.seats.now.items) c.loop-seat.invariant.0 ∙ item_at c.args.seats.now.items c.deref-seat-items.result.now c.loop-seat.seat-index c.seat-item.result (search rules) c.seat-item.is c.deref-seat-items.ensures.value, (sym c.number_of.ensures ∙ c.if-number_of-eq1.true))

pub loop-seat-preserved : goal.loop-seat-preserved
loop-seat-preserved g c = (
  ap (λ (n : ℕ). n + 1) c.loop-seat.invariant.0,
  up_to (λ s. (g.P.Holder.seat_of s).table_seat.number ≢ 1) c.args.seats.now.items c.loop-seat.seat-index c.seat-item.result (search rules)
      (c.seat-item.is ∙ ap (λ z. get_or z c.loop-seat.seat-index c.seat-item.result) c.deref-seat-items.ensures.value) (λ e. c.if-number_of-eq1.false (c.number_of.ensures ∙ e)) c.loop-seat.invariant.1,
)

pub returns : goal.returns
returns g c = each_of (λ s. (g.P.Holder.seat_of s).table_seat.number ≢ 1) c.args.seats.now.items c.loop-seat.seat-index (search rules) c.loop-seat.invariant.1
