use Rattle.std.proofs.Common.{rules, ap, ◌∙◌, sym, get_or, ◌≢◌, ◌≡◌, true≢false, ℕ, subst}
use Rattle.lfm_mutex.specs.calls.Sight.{sight}
use Rattle.lfm_mutex.specs.Close.{Idle, Lacks}
use Rattle.lfm_mutex.proofs.ends.Ends.{up_to, each_of, item_at, hindered_at}
use Rattle.lfm_mutex.proofs.close.missing_at.Goals as goal

pub returns-in-Some : goal.returns-in-Some
returns-in-Some g c = hindered_at (λ p. sight (g.P.Holder.seat_of p)) c.args.seats.now.items c.loop-seat.seat-index c.seat-item.result c.args.number c.in-Some.missing
    (item_at c.args.seats.now.items c.deref-seat-items.result.now c.loop-seat.seat-index c.seat-item.result (search rules) c.seat-item.is c.deref-seat-items.ensures.value) (sym c.number_of.ensures ∙ c.if-number_of-number.false) c.in-Some.ensures

pub loop-seat-preserved-then-number_of-number : goal.loop-seat-preserved-then-number_of-number
loop-seat-preserved-then-number_of-number g c = let i = c.loop-seat.invariant in record {
  none = λ f. up_to (λ s. (g.P.Holder.seat_of s).table_seat.number ≢ c.args.number) c.args.seats.now.items c.loop-seat.seat-index c.seat-item.result (search rules)
      (c.seat-item.is ∙ ap (λ z. get_or z c.loop-seat.seat-index c.seat-item.result) c.deref-seat-items.ensures.value) (λ e. c.if-number_of-number.true (c.number_of.ensures ∙ e)) (i.none f);
  one = i.one;
  idle = up_to (λ s. (g.P.Holder.seat_of s).table_seat.number ≡ c.args.number → Idle (sight (g.P.Holder.seat_of s))) c.args.seats.now.items c.loop-seat.seat-index c.seat-item.result (search rules)
      (c.seat-item.is ∙ ap (λ z. get_or z c.loop-seat.seat-index c.seat-item.result) c.deref-seat-items.ensures.value) (λ e. absurd (c.if-number_of-number.true (c.number_of.ensures ∙ e))) i.idle;
}

pub loop-seat-preserved : goal.loop-seat-preserved
loop-seat-preserved g c = let i = c.loop-seat.invariant in record {
  none = λ f. absurd (true≢false f);
  one = λ _. (c.loop-seat.seat-index, c.seat-item.result, item_at c.args.seats.now.items c.deref-seat-items.result.now c.loop-seat.seat-index c.seat-item.result (search rules) c.seat-item.is c.deref-seat-items.ensures.value, (sym c.number_of.ensures ∙ c.if-number_of-number.false));
  idle = up_to (λ s. (g.P.Holder.seat_of s).table_seat.number ≡ c.args.number → Idle (sight (g.P.Holder.seat_of s))) c.args.seats.now.items c.loop-seat.seat-index c.seat-item.result (search rules)
      (c.seat-item.is ∙ ap (λ z. get_or z c.loop-seat.seat-index c.seat-item.result) c.deref-seat-items.ensures.value) (λ _. search rules) i.idle;
}

pub returns-then-found : goal.returns-then-found
returns-then-found g c = let i = c.loop-seat.invariant in (i.one c.if-found.true, each_of (λ s. (g.P.Holder.seat_of s).table_seat.number ≡ c.args.number → Idle (sight (g.P.Holder.seat_of s))) c.args.seats.now.items c.loop-seat.seat-index (search rules) i.idle)

pub returns-else-found : goal.returns-else-found
returns-else-found g c = (c.known.ensures, subst (λ (k : ℕ). Lacks (λ p. sight (g.P.Holder.seat_of p)) c.args.seats.now.items k) (sym c.known.ensures) (each_of (λ s. (g.P.Holder.seat_of s).table_seat.number ≢ c.args.number) c.args.seats.now.items c.loop-seat.seat-index (search rules) (c.loop-seat.invariant.none c.if-found.false)))
