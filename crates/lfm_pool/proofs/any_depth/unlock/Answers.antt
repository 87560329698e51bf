use Rattle.std.proofs.Common.{ℕ, ◌<◌, ◌-◌, subst, arith}
use Rattle.std.specs.Prelude.{false}
use Rattle.lfm_pool.specs.Depths.{HasDepthIn}
use Rattle.lfm_pool.proofs.AnyDepth.{bounded_then, released_rest, depth_then_at, fewer_rest, given_up_made, gives_up_then, holds_one, last_told, may_at_rest, others_rest, refused_made, rest_then, still_told, releases_then}
use Rattle.lfm_pool.proofs.SeveralSteps.{same_then}
use Rattle.lfm_pool.proofs.any_depth.unlock.Goals as goal

pub depth-held-requires-clause-belongs : goal.depth-held-requires-clause-belongs
depth-held-requires-clause-belongs c =
    let s = c.args.seat.now in let p = c.args.pool.now in let m = c.args.mutex in let r = c.requires in let rest = r.rest in
    rest.belongs

pub depth-held-requires-clause-rests : goal.depth-held-requires-clause-rests
depth-held-requires-clause-rests c =
    let s = c.args.seat.now in let p = c.args.pool.now in let m = c.args.mutex in let r = c.requires in let rest = r.rest in
    rest.depths m r.mutex

pub returns-then-held-eq0-clause-belongs : goal.returns-then-held-eq0-clause-belongs
returns-then-held-eq0-clause-belongs c =
    let s = c.args.seat.now in let p = c.args.pool.now in let m = c.args.mutex in let r = c.requires in let rest = r.rest in
    let f = c.depth-held in let t = f.new.seat in let rest' = rest_then s t p rest f.ensures.belongs f.ensures.knows in
    f.ensures.belongs

pub returns-then-held-eq0-clause-rest : goal.returns-then-held-eq0-clause-rest
returns-then-held-eq0-clause-rest c =
    let s = c.args.seat.now in let p = c.args.pool.now in let m = c.args.mutex in let r = c.requires in let rest = r.rest in
    let f = c.depth-held in let t = f.new.seat in let rest' = rest_then s t p rest f.ensures.belongs f.ensures.knows in
    rest'

pub returns-then-held-eq0-clause-unlocks : goal.returns-then-held-eq0-clause-unlocks
returns-then-held-eq0-clause-unlocks c =
    let s = c.args.seat.now in let p = c.args.pool.now in let m = c.args.mutex in let r = c.requires in let rest = r.rest in
    let f = c.depth-held in let t = f.new.seat in let rest' = rest_then s t p rest f.ensures.belongs f.ensures.knows in
    ((subst (λ (d : ℕ). HasDepthIn s p m d) c.if-held-eq0.true f.ensures.depth), f.ensures.knows)

pub unlock-requires-clause-belongs : goal.unlock-requires-clause-belongs
unlock-requires-clause-belongs c =
    let s = c.args.seat.now in let p = c.args.pool.now in let m = c.args.mutex in let r = c.requires in let rest = r.rest in
    let f = c.depth-held in let t = f.new.seat in let rest' = rest_then s t p rest f.ensures.belongs f.ensures.knows in
    rest'.belongs

pub unlock-requires-clause-holds : goal.unlock-requires-clause-holds
unlock-requires-clause-holds c =
    let s = c.args.seat.now in let p = c.args.pool.now in let m = c.args.mutex in let r = c.requires in let rest = r.rest in
    let f = c.depth-held in let t = f.new.seat in let rest' = rest_then s t p rest f.ensures.belongs f.ensures.knows in
    holds_one t p m (depth_then_at s t p m 1 f.ensures.belongs f.ensures.knows (subst (λ (d : ℕ). HasDepthIn s p m d) c.if-held-eq1.true f.ensures.depth))

pub unlock-requires-clause-elsewhere : goal.unlock-requires-clause-elsewhere
unlock-requires-clause-elsewhere c =
    let s = c.args.seat.now in let p = c.args.pool.now in let m = c.args.mutex in let r = c.requires in let rest = r.rest in
    let f = c.depth-held in let t = f.new.seat in let rest' = rest_then s t p rest f.ensures.belongs f.ensures.knows in
    others_rest t p rest' m

pub returns-then-held-eq1-clause-belongs : goal.returns-then-held-eq1-clause-belongs
returns-then-held-eq1-clause-belongs c =
    let s = c.args.seat.now in let p = c.args.pool.now in let m = c.args.mutex in let r = c.requires in let rest = r.rest in
    let f = c.depth-held in let t = f.new.seat in let rest' = rest_then s t p rest f.ensures.belongs f.ensures.knows in
    let k = c.unlock in let u = k.new.seat in let did = releases_then s t u p m f.ensures.belongs f.ensures.knows k.result k.ensures.releases in (same_then s t u f.ensures.belongs k.ensures.belongs)

pub returns-then-held-eq1-clause-rest : goal.returns-then-held-eq1-clause-rest
returns-then-held-eq1-clause-rest c =
    let s = c.args.seat.now in let p = c.args.pool.now in let m = c.args.mutex in let r = c.requires in let rest = r.rest in
    let f = c.depth-held in let t = f.new.seat in let rest' = rest_then s t p rest f.ensures.belongs f.ensures.knows in
    let k = c.unlock in let u = k.new.seat in let did = releases_then s t u p m f.ensures.belongs f.ensures.knows k.result k.ensures.releases in released_rest s u p m rest r.mutex (same_then s t u f.ensures.belongs k.ensures.belongs) k.result did

pub returns-then-held-eq1-clause-unlocks : goal.returns-then-held-eq1-clause-unlocks
returns-then-held-eq1-clause-unlocks c =
    let s = c.args.seat.now in let p = c.args.pool.now in let m = c.args.mutex in let r = c.requires in let rest = r.rest in
    let f = c.depth-held in let t = f.new.seat in let rest' = rest_then s t p rest f.ensures.belongs f.ensures.knows in
    let k = c.unlock in let u = k.new.seat in let did = releases_then s t u p m f.ensures.belongs f.ensures.knows k.result k.ensures.releases in last_told s u p m k.result (subst (λ (d : ℕ). HasDepthIn s p m d) c.if-held-eq1.true f.ensures.depth) did

pub give_up_one-requires-clause-belongs : goal.give_up_one-requires-clause-belongs
give_up_one-requires-clause-belongs c =
    let s = c.args.seat.now in let p = c.args.pool.now in let m = c.args.mutex in let r = c.requires in let rest = r.rest in
    let f = c.depth-held in let t = f.new.seat in let rest' = rest_then s t p rest f.ensures.belongs f.ensures.knows in
    rest'.belongs

pub give_up_one-requires-clause-has : goal.give_up_one-requires-clause-has
give_up_one-requires-clause-has c =
    let s = c.args.seat.now in let p = c.args.pool.now in let m = c.args.mutex in let r = c.requires in let rest = r.rest in
    let f = c.depth-held in let t = f.new.seat in let rest' = rest_then s t p rest f.ensures.belongs f.ensures.knows in
    (depth_then_at s t p m f.result f.ensures.belongs f.ensures.knows f.ensures.depth)

pub give_up_one-requires-clause-inner : goal.give_up_one-requires-clause-inner
give_up_one-requires-clause-inner c =
    let s = c.args.seat.now in let p = c.args.pool.now in let m = c.args.mutex in let r = c.requires in let rest = r.rest in
    let f = c.depth-held in let t = f.new.seat in let rest' = rest_then s t p rest f.ensures.belongs f.ensures.knows in
    (let some = c.if-held-eq0.false in let more = c.if-held-eq1.false in let e : 1 < f.result = omega (arith, some, more) in e)

pub returns-clause-belongs : goal.returns-clause-belongs
returns-clause-belongs c =
    let s = c.args.seat.now in let p = c.args.pool.now in let m = c.args.mutex in let r = c.requires in let rest = r.rest in
    let f = c.depth-held in let t = f.new.seat in let rest' = rest_then s t p rest f.ensures.belongs f.ensures.knows in
    let k = c.give_up_one in let u = k.new.seat in let did = gives_up_then s t u p m f.ensures.belongs f.ensures.knows (f.result - 1) k.ensures.gives in (same_then s t u f.ensures.belongs k.ensures.belongs)

pub returns-clause-rest : goal.returns-clause-rest
returns-clause-rest c =
    let s = c.args.seat.now in let p = c.args.pool.now in let m = c.args.mutex in let r = c.requires in let rest = r.rest in
    let f = c.depth-held in let t = f.new.seat in let rest' = rest_then s t p rest f.ensures.belongs f.ensures.knows in
    let k = c.give_up_one in let u = k.new.seat in let did = gives_up_then s t u p m f.ensures.belongs f.ensures.knows (f.result - 1) k.ensures.gives in (fewer_rest s u p m rest r.mutex (same_then s t u f.ensures.belongs k.ensures.belongs) (f.result - 1) did)

pub returns-clause-unlocks : goal.returns-clause-unlocks
returns-clause-unlocks c =
    let s = c.args.seat.now in let p = c.args.pool.now in let m = c.args.mutex in let r = c.requires in let rest = r.rest in
    let f = c.depth-held in let t = f.new.seat in let rest' = rest_then s t p rest f.ensures.belongs f.ensures.knows in
    let k = c.give_up_one in let u = k.new.seat in let did = gives_up_then s t u p m f.ensures.belongs f.ensures.knows (f.result - 1) k.ensures.gives in still_told s u p m f.result k.result k.ensures.fewer (let some = c.if-held-eq0.false in let more = c.if-held-eq1.false in let e : 1 < f.result = omega (arith, some, more) in e) f.ensures.depth did

pub returns-then-held-eq0-clause-bounded : goal.returns-then-held-eq0-clause-bounded
returns-then-held-eq0-clause-bounded c =
    let s = c.args.seat.now in let p = c.args.pool.now in let m = c.args.mutex in let r = c.requires in let rest = r.rest in
    let f = c.depth-held in let t = f.new.seat in
    refused_made s t m _ f.ensures.knows

pub returns-then-held-eq1-clause-bounded : goal.returns-then-held-eq1-clause-bounded
returns-then-held-eq1-clause-bounded c =
    let s = c.args.seat.now in let p = c.args.pool.now in let m = c.args.mutex in let r = c.requires in let rest = r.rest in
    let f = c.depth-held in let t = f.new.seat in
    let k = c.unlock in bounded_then s t k.new.seat m _ f.ensures.knows k.ensures.bounded

pub returns-clause-bounded : goal.returns-clause-bounded
returns-clause-bounded c =
    let s = c.args.seat.now in let p = c.args.pool.now in let m = c.args.mutex in let r = c.requires in let rest = r.rest in
    let f = c.depth-held in let t = f.new.seat in
    let k = c.give_up_one in let u = k.new.seat in given_up_made s u p m (may_at_rest s p rest m r.mutex) (f.result - 1) _ (gives_up_then s t u p m f.ensures.belongs f.ensures.knows (f.result - 1) k.ensures.gives)
