use Rattle.std.proofs.Common.{ℕ, sym, ◌<◌, ◌+◌, subst, arith, ◌∙◌}
use Rattle.std.proofs.lemmas.Bool.{false≢true}
use Rattle.atomic_table.specs.Table.{Me}
use Rattle.lfm_pool.specs.declared.view.PoolView.{PoolView}
use Rattle.lfm_pool.specs.Depths.{HasDepthIn, TryAgainSteps}
use Rattle.lfm_pool.specs.Steps.{state_in}
use Rattle.lfm_pool.proofs.AnyDepth.{again_told, bounded_then, deep_rest, deepens_then, depth_then_at, full, may_at_rest, may_try_flat, others_rest, refused_made, rest_then, tried_again_made, tries_then, try_rest, try_told}
use Rattle.lfm_pool.proofs.CountedTakes.{not_flat}
use Rattle.lfm_pool.proofs.SeveralSteps.{same_then}
use Rattle.lfm_pool.proofs.any_depth.try_lock.Goals as goal

pub depth-held-requires-clause-belongs : goal.depth-held-requires-clause-belongs
depth-held-requires-clause-belongs c =
    let s = c.args.seat.now in let p = c.args.pool.now in let m = c.args.mutex in let r = c.requires in let rest = r.rest in
    rest.belongs

pub depth-held-requires-clause-rests : goal.depth-held-requires-clause-rests
depth-held-requires-clause-rests c =
    let s = c.args.seat.now in let p = c.args.pool.now in let m = c.args.mutex in let r = c.requires in let rest = r.rest in
    rest.depths m r.mutex

pub try_lock-requires-clause-belongs : goal.try_lock-requires-clause-belongs
try_lock-requires-clause-belongs c =
    let s = c.args.seat.now in let p = c.args.pool.now in let m = c.args.mutex in let r = c.requires in let rest = r.rest in
    let f = c.depth-held in let t = f.new.seat in let rest' = rest_then s t p rest f.ensures.belongs f.ensures.knows in
    rest'.belongs

pub try_lock-requires-clause-may : goal.try_lock-requires-clause-may
try_lock-requires-clause-may c =
    let s = c.args.seat.now in let p = c.args.pool.now in let m = c.args.mutex in let r = c.requires in let rest = r.rest in
    let f = c.depth-held in let t = f.new.seat in let rest' = rest_then s t p rest f.ensures.belongs f.ensures.knows in
    may_try_flat t p m (depth_then_at s t p m 0 f.ensures.belongs f.ensures.knows (subst (λ (d : ℕ). HasDepthIn s p m d) c.if-held-eq0.true f.ensures.depth)) (subst (λ (z : Me ℕ PoolView). (state_in z.0 m).takes < p.limits.budget) (sym f.ensures.knows) (r.charged c.if-not-has_take.false))

pub try_lock-requires-clause-elsewhere : goal.try_lock-requires-clause-elsewhere
try_lock-requires-clause-elsewhere c =
    let s = c.args.seat.now in let p = c.args.pool.now in let m = c.args.mutex in let r = c.requires in let rest = r.rest in
    let f = c.depth-held in let t = f.new.seat in let rest' = rest_then s t p rest f.ensures.belongs f.ensures.knows in
    others_rest t p rest' m

pub returns-then-held-eq0-clause-belongs : goal.returns-then-held-eq0-clause-belongs
returns-then-held-eq0-clause-belongs c =
    let s = c.args.seat.now in let p = c.args.pool.now in let m = c.args.mutex in let r = c.requires in let rest = r.rest in
    let f = c.depth-held in let t = f.new.seat in let rest' = rest_then s t p rest f.ensures.belongs f.ensures.knows in
    let k = c.try_lock in let u = k.new.seat in let did = tries_then s t u p m f.ensures.belongs f.ensures.knows k.result k.ensures.tries in (same_then s t u f.ensures.belongs k.ensures.belongs)

pub returns-then-held-eq0-clause-rest : goal.returns-then-held-eq0-clause-rest
returns-then-held-eq0-clause-rest c =
    let s = c.args.seat.now in let p = c.args.pool.now in let m = c.args.mutex in let r = c.requires in let rest = r.rest in
    let f = c.depth-held in let t = f.new.seat in let rest' = rest_then s t p rest f.ensures.belongs f.ensures.knows in
    let k = c.try_lock in let u = k.new.seat in let did = tries_then s t u p m f.ensures.belongs f.ensures.knows k.result k.ensures.tries in (try_rest s u p m rest r.mutex (same_then s t u f.ensures.belongs k.ensures.belongs) k.result (subst (λ (d : ℕ). HasDepthIn s p m d) c.if-held-eq0.true f.ensures.depth) did k.ensures.may k.ensures.holds)

pub returns-then-held-eq0-clause-tries : goal.returns-then-held-eq0-clause-tries
returns-then-held-eq0-clause-tries c =
    let s = c.args.seat.now in let p = c.args.pool.now in let m = c.args.mutex in let r = c.requires in let rest = r.rest in
    let f = c.depth-held in let t = f.new.seat in let rest' = rest_then s t p rest f.ensures.belongs f.ensures.knows in
    let k = c.try_lock in let u = k.new.seat in let did = tries_then s t u p m f.ensures.belongs f.ensures.knows k.result k.ensures.tries in try_told s u p m k.result (subst (λ (d : ℕ). HasDepthIn s p m d) c.if-held-eq0.true f.ensures.depth) did k.ensures.holds

pub try_again-requires-clause-may : goal.try_again-requires-clause-may
try_again-requires-clause-may c =
    let s = c.args.seat.now in let p = c.args.pool.now in let m = c.args.mutex in let r = c.requires in let rest = r.rest in
    let f = c.depth-held in let t = f.new.seat in let rest' = rest_then s t p rest f.ensures.belongs f.ensures.knows in
    may_at_rest t p rest' m r.mutex

pub try_again-requires-clause-has : goal.try_again-requires-clause-has
try_again-requires-clause-has c =
    let s = c.args.seat.now in let p = c.args.pool.now in let m = c.args.mutex in let r = c.requires in let rest = r.rest in
    let f = c.depth-held in let t = f.new.seat in let rest' = rest_then s t p rest f.ensures.belongs f.ensures.knows in
    (depth_then_at s t p m f.result f.ensures.belongs f.ensures.knows f.ensures.depth)

pub try_again-requires-clause-holds : goal.try_again-requires-clause-holds
try_again-requires-clause-holds c =
    let s = c.args.seat.now in let p = c.args.pool.now in let m = c.args.mutex in let r = c.requires in let rest = r.rest in
    let f = c.depth-held in let t = f.new.seat in let rest' = rest_then s t p rest f.ensures.belongs f.ensures.knows in
    ((let some = c.if-held-eq0.false in let e : 0 < f.result = omega (arith, some) in e), c.if-held-lt-MAX_DEPTH.true)

pub returns-then-held-lt-MAX_DEPTH-clause-belongs : goal.returns-then-held-lt-MAX_DEPTH-clause-belongs
returns-then-held-lt-MAX_DEPTH-clause-belongs c =
    let s = c.args.seat.now in let p = c.args.pool.now in let m = c.args.mutex in let r = c.requires in let rest = r.rest in
    let f = c.depth-held in let t = f.new.seat in let rest' = rest_then s t p rest f.ensures.belongs f.ensures.knows in
    let k = c.try_again in let u = k.new.seat in (same_then s t u f.ensures.belongs k.ensures.belongs)

pub returns-then-held-lt-MAX_DEPTH-clause-rest : goal.returns-then-held-lt-MAX_DEPTH-clause-rest
returns-then-held-lt-MAX_DEPTH-clause-rest c =
    let s = c.args.seat.now in let p = c.args.pool.now in let m = c.args.mutex in let r = c.requires in let rest = r.rest in
    let f = c.depth-held in let t = f.new.seat in let rest' = rest_then s t p rest f.ensures.belongs f.ensures.knows in
    let k = c.try_again in let u = k.new.seat in (deep_rest s u p m rest r.mutex (same_then s t u f.ensures.belongs k.ensures.belongs) TryAgainSteps (f.result + 1) (deepens_then s t u p m f.ensures.belongs f.ensures.knows TryAgainSteps (f.result + 1) k.ensures.deepens))

pub returns-then-held-lt-MAX_DEPTH-clause-tries : goal.returns-then-held-lt-MAX_DEPTH-clause-tries
returns-then-held-lt-MAX_DEPTH-clause-tries c =
    let s = c.args.seat.now in let p = c.args.pool.now in let m = c.args.mutex in let r = c.requires in let rest = r.rest in
    let f = c.depth-held in let t = f.new.seat in let rest' = rest_then s t p rest f.ensures.belongs f.ensures.knows in
    let k = c.try_again in let u = k.new.seat in again_told s u p m f.result k.result k.ensures.deeper (let some = c.if-held-eq0.false in let e : 0 < f.result = omega (arith, some) in e) f.ensures.depth (deepens_then s t u p m f.ensures.belongs f.ensures.knows TryAgainSteps (f.result + 1) k.ensures.deepens)

pub returns-clause-belongs : goal.returns-clause-belongs
returns-clause-belongs c =
    let s = c.args.seat.now in let p = c.args.pool.now in let m = c.args.mutex in let r = c.requires in let rest = r.rest in
    let f = c.depth-held in let t = f.new.seat in let rest' = rest_then s t p rest f.ensures.belongs f.ensures.knows in
    f.ensures.belongs

pub returns-clause-rest : goal.returns-clause-rest
returns-clause-rest c =
    let s = c.args.seat.now in let p = c.args.pool.now in let m = c.args.mutex in let r = c.requires in let rest = r.rest in
    let f = c.depth-held in let t = f.new.seat in let rest' = rest_then s t p rest f.ensures.belongs f.ensures.knows in
    rest'

pub returns-clause-tries : goal.returns-clause-tries
returns-clause-tries c =
    let s = c.args.seat.now in let p = c.args.pool.now in let m = c.args.mutex in let r = c.requires in let rest = r.rest in
    let f = c.depth-held in let t = f.new.seat in let rest' = rest_then s t p rest f.ensures.belongs f.ensures.knows in
    (full s p m f.result f.ensures.depth c.if-held-lt-MAX_DEPTH.false, f.ensures.knows)

pub returns-then-held-eq0-clause-bounded : goal.returns-then-held-eq0-clause-bounded
returns-then-held-eq0-clause-bounded c =
    let s = c.args.seat.now in let p = c.args.pool.now in let m = c.args.mutex in let r = c.requires in let rest = r.rest in
    let f = c.depth-held in let t = f.new.seat in
    let k = c.try_lock in bounded_then s t k.new.seat m 6 f.ensures.knows k.ensures.bounded

pub returns-then-held-lt-MAX_DEPTH-clause-bounded : goal.returns-then-held-lt-MAX_DEPTH-clause-bounded
returns-then-held-lt-MAX_DEPTH-clause-bounded c =
    let s = c.args.seat.now in let p = c.args.pool.now in let m = c.args.mutex in let r = c.requires in let rest = r.rest in
    let f = c.depth-held in let t = f.new.seat in
    let k = c.try_again in let u = k.new.seat in tried_again_made s u p m (may_at_rest s p rest m r.mutex) (f.result + 1) (deepens_then s t u p m f.ensures.belongs f.ensures.knows TryAgainSteps (f.result + 1) k.ensures.deepens)

pub returns-clause-bounded : goal.returns-clause-bounded
returns-clause-bounded c =
    let s = c.args.seat.now in let p = c.args.pool.now in let m = c.args.mutex in let r = c.requires in let rest = r.rest in
    let f = c.depth-held in let t = f.new.seat in
    refused_made s t m 6 f.ensures.knows

pub returns-then-not-has_take-clause-rest : goal.returns-then-not-has_take-clause-rest
returns-then-not-has_take-clause-rest c =
    let s = c.args.seat.now in let p = c.args.pool.now in let m = c.args.mutex in let r = c.requires in let rest = r.rest in
    let f = c.depth-held in let t = f.new.seat in let rest' = rest_then s t p rest f.ensures.belongs f.ensures.knows in
    rest'

pub returns-then-not-has_take-clause-bounded : goal.returns-then-not-has_take-clause-bounded
returns-then-not-has_take-clause-bounded c =
    let s = c.args.seat.now in let p = c.args.pool.now in let m = c.args.mutex in let r = c.requires in let rest = r.rest in
    let f = c.depth-held in let t = f.new.seat in let rest' = rest_then s t p rest f.ensures.belongs f.ensures.knows in
    refused_made s t m 6 f.ensures.knows

pub returns-then-held-eq0-clause-refuses : goal.returns-then-held-eq0-clause-refuses
returns-then-held-eq0-clause-refuses c =
    let s = c.args.seat.now in let p = c.args.pool.now in let m = c.args.mutex in let f = c.depth-held in
    λ flat none. absurd (false≢true (sym none ∙ c.if-not-has_take.false))

pub returns-then-held-lt-MAX_DEPTH-clause-refuses : goal.returns-then-held-lt-MAX_DEPTH-clause-refuses
returns-then-held-lt-MAX_DEPTH-clause-refuses c =
    let s = c.args.seat.now in let p = c.args.pool.now in let m = c.args.mutex in let f = c.depth-held in
    λ flat none. absurd (not_flat s p m f.result f.ensures.depth (let some = c.if-held-eq0.false in let e : 0 < f.result = omega (arith, some) in e) flat)

pub returns-clause-refuses : goal.returns-clause-refuses
returns-clause-refuses c =
    let s = c.args.seat.now in let p = c.args.pool.now in let m = c.args.mutex in let f = c.depth-held in
    λ flat none. absurd (not_flat s p m f.result f.ensures.depth (let some = c.if-held-eq0.false in let e : 0 < f.result = omega (arith, some) in e) flat)
