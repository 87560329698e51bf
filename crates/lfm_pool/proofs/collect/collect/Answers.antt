use Rattle.std.proofs.Common.{ℕ, ap, sym, subst, ◌∙◌, arith}
use Rattle.lfm_pool.specs.Collecting.{CollectsIn}
use Rattle.lfm_pool.proofs.Walking.{now_count, walk_carries, walk_elsewhere, walk_ends, walk_room, walk_starts, walk_target, walks_on}
use Rattle.lfm_pool.proofs.collect.collect.Goals as goal

pub walk-init : goal.walk-init
walk-init c =
    let s = c.args.seat.now in let r = c.requires in
    let t = walk_target c.args.pool.now s c.args.mutex c.args.head r.sits r.at in
    record { walk = (r.at.0, r.at.1, walk_starts c.args.pool.now s c.args.mutex c.args.head r.sits r.at r.none r.whole (let few = c.args.pool.now.few.0 in omega (arith, t.1, few))) }

pub collect_one-found-requires-clause-belongs : goal.collect_one-found-requires-clause-belongs
collect_one-found-requires-clause-belongs c =
    let w = c.walk.invariant.walk.2 in record { table = w.same.table ∙ c.requires.belongs.table; parts = w.same.parts ∙ c.requires.belongs.parts }

pub collect_one-found-requires-clause-sits : goal.collect_one-found-requires-clause-sits
collect_one-found-requires-clause-sits c = c.walk.invariant.walk.2.sits

pub collect_one-found-requires-clause-elsewhere : goal.collect_one-found-requires-clause-elsewhere
collect_one-found-requires-clause-elsewhere c = walk_elsewhere _ _ _ _ _ _ _ _ c.walk.invariant.walk.2 c.requires.elsewhere

pub collect_one-found-requires-clause-at : goal.collect_one-found-requires-clause-at
collect_one-found-requires-clause-at c = let w = c.walk.invariant.walk in (w.0, ap (λ x. x.point) w.2.state)

pub collect_one-found-requires-clause-whole : goal.collect_one-found-requires-clause-whole
collect_one-found-requires-clause-whole c = c.walk.invariant.walk.2.whole

pub collect_one-found-requires-clause-newer : goal.collect_one-found-requires-clause-newer
collect_one-found-requires-clause-newer c = let w = c.walk.invariant.walk.2 in (w.newer_is, w.small)

pub known-number-requires-clause-above : goal.known-number-requires-clause-above
known-number-requires-clause-above c =
    let w = c.walk.invariant.walk in (walk_target c.args.pool.now c.walk.seat c.args.mutex c.walk.target w.2.sits (w.0, ap (λ x. x.point) w.2.state)).0

pub known-number-requires-clause-within : goal.known-number-requires-clause-within
known-number-requires-clause-within c =
    let w = c.walk.invariant.walk in
    let t = walk_target c.args.pool.now c.walk.seat c.args.mutex c.walk.target w.2.sits (w.0, ap (λ x. x.point) w.2.state) in let few = c.args.pool.now.few.0 in omega (arith, t.1, few)

pub carried_store-requires-clause-belongs : goal.carried_store-requires-clause-belongs
carried_store-requires-clause-belongs c =
    let w = c.walk.invariant.walk.2 in let f = c.collect_one-found.ensures.belongs in
    record { table = f.table ∙ w.same.table ∙ c.requires.belongs.table; parts = f.parts ∙ w.same.parts ∙ c.requires.belongs.parts }

pub carried_store-requires-clause-carries : goal.carried_store-requires-clause-carries
carried_store-requires-clause-carries c =
    let w = c.walk.invariant.walk in let f = c.collect_one-found in
    walk_carries c.args.pool.now c.args.seat.now c.walk.seat f.new.seat c.args.mutex w.0 c.args.head c.walk.target c.walk.newer c.requires.belongs c.requires.mutex w.2 f.result f.ensures.packs.1 f.ensures.belongs f.ensures.collects

pub walk-preserved : goal.walk-preserved
walk-preserved c =
    let w = c.walk.invariant.walk in let f = c.collect_one-found in
    record {
      walk = (
        w.0,
        w.1,
        walks_on c.args.pool.now c.args.seat.now c.walk.seat f.new.seat c.args.mutex w.0 c.args.head c.walk.target c.walk.newer c.requires.belongs c.requires.mutex w.2 f.result f.ensures.packs.1 f.ensures.belongs f.ensures.collects c.if-next-eq0.false,
      );
    }

pub walk-smaller : goal.walk-smaller
walk-smaller c =
    let w = c.walk.invariant.walk in let f = c.collect_one-found in
    let room = walk_room c.args.pool.now c.args.seat.now c.walk.seat f.new.seat c.args.mutex w.0 c.args.head c.walk.target c.walk.newer c.requires.belongs c.requires.mutex w.2 f.result f.ensures.packs.1 f.ensures.belongs f.ensures.collects in
    let count = now_count c.args.pool.now c.args.seat.now c.walk.seat f.new.seat c.args.mutex w.0 c.args.head c.walk.target c.walk.newer c.requires.belongs c.requires.mutex w.2 f.result f.ensures.packs.1 f.ensures.belongs f.ensures.collects in
    omega (arith, room, count)

pub returns-then-next-eq0-clause-belongs : goal.returns-then-next-eq0-clause-belongs
returns-then-next-eq0-clause-belongs c =
    let w = c.walk.invariant.walk.2.same in let f = c.collect_one-found.ensures.belongs in let u = c.carried_store.ensures.belongs in
    record { table = u.table ∙ f.table ∙ w.table; id = u.id ∙ f.id ∙ w.id; number = u.number ∙ f.number ∙ w.number; parts = u.parts ∙ f.parts ∙ w.parts }

pub returns-then-next-eq0-clause-collects : goal.returns-then-next-eq0-clause-collects
returns-then-next-eq0-clause-collects c =
    let w = c.walk.invariant.walk in let f = c.collect_one-found in let u = c.carried_store in
    subst (λ (n : ℕ). CollectsIn c.args.seat.now u.new.seat c.args.pool.now c.args.mutex c.args.head (record { seat = n; stamp = f.result.stamp })) (sym c.known-number.ensures)
    (walk_ends c.args.pool.now c.args.seat.now c.walk.seat f.new.seat c.args.mutex w.0 c.args.head c.walk.target c.walk.newer c.requires.belongs c.requires.mutex w.2 f.result f.ensures.packs.1 f.ensures.belongs f.ensures.collects u.new.seat c.if-next-eq0.true u.ensures.belongs
    u.ensures.notes w.1)
