use Rattle.std.proofs.Common.{rules, ◌≡◌, ℕ, ◌+◌, [], length, ap, ◌∙◌, sym, subst, arith}
use Rattle.std.proofs.lemmas.List.{length-replicate}
use Rattle.atomic_table.specs.Table.{Me}
use Rattle.lfm_table.proofs.tables.OneMore.{and_last}
use Rattle.lfm_pool.specs.declared.view.PoolView.{PoolView}
use Rattle.lfm_pool.specs.declared.pool.TableSeat.{TableSeat}
use Rattle.lfm_pool.specs.Calls.{IsBetweenCalls}
use Rattle.lfm_pool.specs.Rule.{MaySplit, left_view, right_view}
use Rattle.lfm_pool.specs.Tables.{unnoted}
use Rattle.lfm_pool.proofs.NewSeats.{IsSplitOff, all_by_place, all_new, first_after, left_same, right_same, same_may_split, same_of_each}
use Rattle.lfm_pool.proofs.pool.Pool.open.Goals as goal

pub split_seat-seat-requires-clause-table : goal.split_seat-seat-requires-clause-table
split_seat-seat-requires-clause-table c = let k = c.loop-i.invariant in (k.table, k.id)

pub split_seat-seat-requires-clause-inside : goal.split_seat-seat-requires-clause-inside
split_seat-seat-requires-clause-inside c =
    let k = c.loop-i.invariant in
    ap (λ (z : Me ℕ PoolView). length z.0.parts) k.me ∙ length-replicate c.args.mutexes (unnoted (first_after c.args.limits (length c.loop-i.all.items))) ∙ sym k.pool.0

pub split_seat-seat-requires-clause-may : goal.split_seat-seat-requires-clause-may
split_seat-seat-requires-clause-may c =
    let k = c.loop-i.invariant in let below = c.loop-i-test.true in let m = k.room.0 in
    subst (λ (z : Me ℕ PoolView). MaySplit z.0) (sym k.me) (same_may_split c.args.mutexes c.args.limits (length c.loop-i.all.items) c.requires.some (omega arith))

pub loop-i-preserved : goal.loop-i-preserved
loop-i-preserved c =
    let k = c.loop-i.invariant in let cut = c.split_seat-seat.ensures in let m = k.room.0 in let n : ℕ = length c.loop-i.all.items in let new = c.new.ensures in
    record {
      table = cut.table.0 ∙ k.table;
      id = cut.table.1 ∙ k.id;
      number = cut.table.2 ∙ k.number;
      pool = k.pool;
      me =
          let more : n + 1 ≡ length c.push_reserved.new.self.items = search rules in
          cut.split.0 ∙ ap (λ (z : Me ℕ PoolView). (left_view z.0, z.1)) k.me
          ∙ (λ i. (left_same c.args.mutexes c.args.limits n i, []))
          ∙ (λ i. (same_of_each c.args.mutexes (first_after c.args.limits (more i)), []));
      room = search rules;
      seats = and_last (λ j s. IsSplitOff c.in-Ok-with_first_seat.opened.0 c.args.mutexes c.args.limits j s) c.loop-i.all.items c.push_reserved.new.self.items _ c.push_reserved.ensures.items (
          record {
            table = ap (λ (s : TableSeat). s.place.table_id) new.0 ∙ cut.split.1 ∙ k.table;
            number = ap (λ (s : TableSeat). s.number) new.0 ∙ cut.split.3 ∙ (let q : c.loop-i.i + 1 ≡ n + 2 = omega (arith, m) in q);
            me = ap (λ (s : TableSeat). s.place.me) new.0 ∙ cut.split.2 ∙ ap (λ (z : Me ℕ PoolView). (right_view z.0, [])) k.me ∙ (λ i. (right_same c.args.mutexes c.args.limits n i, []));
            no_take = new.1;
            awake = new.2;
          }
          ) k.seats;
    }

pub returns-clause-seats : goal.returns-clause-seats
returns-clause-seats c =
    let k = c.loop-i.invariant in let l = c.args.limits in let n : ℕ = length c.loop-i.all.items in
    let some = c.requires.seats.0 in
    let last : n + 1 ≡ l.seats = (let t = c.loop-i-test.false in let e = c.loop-i.auto.i-end (omega (arith, some)) in let m = k.room.0 in omega (arith, t, e, m)) in
    let new = c.new-2.ensures in (
      search rules,
      λ j s e. (all_new c.in-Ok-with_first_seat.opened.0 c.args.mutexes l c.new-2.result c.loop-i.all.items _ c.requires.seats.1 c.requires.takes.0 k.pool.0 k.pool.1 last
          (ap (λ (s : TableSeat). s.place.table_id) new.0 ∙ k.table) (ap (λ (s : TableSeat). s.place.id) new.0 ∙ k.id) (ap (λ (s : TableSeat). s.number) new.0 ∙ k.number) (ap (λ (s : TableSeat). s.place.me) new.0 ∙ k.me)
          new.1 new.2 k.seats c.in-Ok-insert.ensures.items j s e),
    )

pub returns-clause-between : goal.returns-clause-between
returns-clause-between c =
    let k = c.loop-i.invariant in let l = c.args.limits in let n : ℕ = length c.loop-i.all.items in
    let some = c.requires.seats.0 in
    let last : n + 1 ≡ l.seats = (let t = c.loop-i-test.false in let e = c.loop-i.auto.i-end (omega (arith, some)) in let m = k.room.0 in omega (arith, t, e, m)) in
    let new = c.new-2.ensures in
    all_by_place (λ s. IsBetweenCalls s c.in-Ok-with_first_seat.opened.0) _ (λ j s e. (all_new c.in-Ok-with_first_seat.opened.0 c.args.mutexes l c.new-2.result c.loop-i.all.items _ c.requires.seats.1 c.requires.takes.0 k.pool.0 k.pool.1 last
    (ap (λ (s : TableSeat). s.place.table_id) new.0 ∙ k.table) (ap (λ (s : TableSeat). s.place.id) new.0 ∙ k.id) (ap (λ (s : TableSeat). s.number) new.0 ∙ k.number) (ap (λ (s : TableSeat). s.place.me) new.0 ∙ k.me)
    new.1 new.2 k.seats c.in-Ok-insert.ensures.items j s e).1)
