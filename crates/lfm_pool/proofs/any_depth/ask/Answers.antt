use Rattle.std.proofs.Common.{ℕ, sym, ◌<◌, ◌+◌, length, subst, inr, arith, ◌∙◌}
use Rattle.std.proofs.lemmas.Bool.{false≢true}
use Rattle.lfm_pool.specs.Admissions.{most_stamps, stamp_in}
use Rattle.lfm_pool.specs.Depths.{AskAgainSteps, HasDepthIn}
use Rattle.lfm_pool.specs.Seats.{popped_of}
use Rattle.lfm_pool.proofs.AnyDepth.{admits_from_load, asked_again, asked_again_made, asked_first, asks_from_load, beside_from_load, deep_rest, deepens_then, depth_then_at, finds_none, full, is_below, loads_beside, may_at_rest, may_try_from_load, others_rest, placed, refused_beside, rest_from_load, rest_then, same_both}
use Rattle.lfm_pool.proofs.CountedTakes.{not_flat}
use Rattle.lfm_pool.proofs.SeveralSteps.{same_then}
use Rattle.lfm_pool.proofs.any_depth.ask.Goals as goal

pub depth-held-requires-clause-belongs : goal.depth-held-requires-clause-belongs
depth-held-requires-clause-belongs c =
    let s = c.args.seat.now in let p = c.args.pool.now in let m = c.args.mutex in let r = c.requires in let rest = r.rest in
    rest.belongs

pub depth-held-requires-clause-rests : goal.depth-held-requires-clause-rests
depth-held-requires-clause-rests c =
    let s = c.args.seat.now in let p = c.args.pool.now in let m = c.args.mutex in let r = c.requires in let rest = r.rest in
    rest.depths m r.mutex

pub ask_without_waking-asked-requires-clause-belongs : goal.ask_without_waking-asked-requires-clause-belongs
ask_without_waking-asked-requires-clause-belongs c =
    let s = c.args.seat.now in let p = c.args.pool.now in let m = c.args.mutex in let r = c.requires in let rest = r.rest in
    let f = c.depth-held in let t = f.new.seat in let g = c.has_stamp in let u = g.new.seat in let found = g.ensures.loads.0 in
    (rest_from_load s t u m found f.ensures.belongs f.ensures.knows g.ensures.belongs g.ensures.loads.1 p rest).belongs

pub ask_without_waking-asked-requires-clause-may : goal.ask_without_waking-asked-requires-clause-may
ask_without_waking-asked-requires-clause-may c =
    let s = c.args.seat.now in let p = c.args.pool.now in let m = c.args.mutex in let r = c.requires in let rest = r.rest in
    let f = c.depth-held in let t = f.new.seat in let g = c.has_stamp in let u = g.new.seat in let found = g.ensures.loads.0 in
    may_try_from_load s t u m found f.ensures.belongs f.ensures.knows g.ensures.belongs g.ensures.loads.1 p (subst (λ (d : ℕ). HasDepthIn s p m d) c.if-held-eq0.true f.ensures.depth) (r.charged c.if-not-has_take.false)

pub ask_without_waking-asked-requires-clause-elsewhere : goal.ask_without_waking-asked-requires-clause-elsewhere
ask_without_waking-asked-requires-clause-elsewhere c =
    let s = c.args.seat.now in let p = c.args.pool.now in let m = c.args.mutex in let r = c.requires in let rest = r.rest in
    let f = c.depth-held in let t = f.new.seat in let g = c.has_stamp in let u = g.new.seat in let found = g.ensures.loads.0 in
    others_rest u p (rest_from_load s t u m found f.ensures.belongs f.ensures.knows g.ensures.belongs g.ensures.loads.1 p rest) m

pub ask_without_waking-asked-requires-clause-admitted : goal.ask_without_waking-asked-requires-clause-admitted
ask_without_waking-asked-requires-clause-admitted c =
    let s = c.args.seat.now in let p = c.args.pool.now in let m = c.args.mutex in let r = c.requires in let rest = r.rest in
    let f = c.depth-held in let t = f.new.seat in let g = c.has_stamp in let u = g.new.seat in let found = g.ensures.loads.0 in
    admits_from_load s t u m found f.ensures.belongs f.ensures.knows g.ensures.belongs g.ensures.loads.1 p rest.belongs r.mutex (sym g.ensures.loads.2 ∙ c.if-not-has_stamp.false)

pub returns-then-held-eq0-clause-belongs : goal.returns-then-held-eq0-clause-belongs
returns-then-held-eq0-clause-belongs c =
    let s = c.args.seat.now in let p = c.args.pool.now in let m = c.args.mutex in let r = c.requires in let rest = r.rest in
    let f = c.depth-held in let t = f.new.seat in let g = c.has_stamp in let u = g.new.seat in let found = g.ensures.loads.0 in
    let k = c.ask_without_waking-asked in let v = k.new.seat in same_then s u v (same_both s t u m found f.ensures.belongs f.ensures.knows g.ensures.belongs g.ensures.loads.1) k.ensures.belongs

pub returns-then-held-eq0-clause-placed : goal.returns-then-held-eq0-clause-placed
returns-then-held-eq0-clause-placed c =
    let s = c.args.seat.now in let p = c.args.pool.now in let m = c.args.mutex in let r = c.requires in let rest = r.rest in
    let f = c.depth-held in let t = f.new.seat in let g = c.has_stamp in let u = g.new.seat in let found = g.ensures.loads.0 in
    let k = c.ask_without_waking-asked in let v = k.new.seat in
    placed u v p m (rest_from_load s t u m found f.ensures.belongs f.ensures.knows g.ensures.belongs g.ensures.loads.1 p rest) r.mutex k.ensures.belongs k.result.0 k.result.1 k.ensures.asks k.ensures.may k.ensures.ready

pub returns-then-held-eq0-clause-asks : goal.returns-then-held-eq0-clause-asks
returns-then-held-eq0-clause-asks c =
    let s = c.args.seat.now in let p = c.args.pool.now in let m = c.args.mutex in let r = c.requires in let rest = r.rest in
    let f = c.depth-held in let t = f.new.seat in let g = c.has_stamp in let u = g.new.seat in let found = g.ensures.loads.0 in
    let k = c.ask_without_waking-asked in let v = k.new.seat in let did = asks_from_load s t u m found f.ensures.belongs f.ensures.knows g.ensures.belongs g.ensures.loads.1 v p k.result.0 k.result.1 k.ensures.asks in
    asked_first s v p m found (is_below (stamp_in found) most_stamps (sym g.ensures.loads.2 ∙ c.if-not-has_stamp.false)) k.result.0 k.result.1 (subst (λ (d : ℕ). HasDepthIn s p m d) c.if-held-eq0.true f.ensures.depth) did k.ensures.ready

pub ask_again-deeper-requires-clause-may : goal.ask_again-deeper-requires-clause-may
ask_again-deeper-requires-clause-may c =
    let s = c.args.seat.now in let p = c.args.pool.now in let m = c.args.mutex in let r = c.requires in let rest = r.rest in
    let f = c.depth-held in let t = f.new.seat in let rest' = rest_then s t p rest f.ensures.belongs f.ensures.knows in
    may_at_rest t p rest' m r.mutex

pub ask_again-deeper-requires-clause-has : goal.ask_again-deeper-requires-clause-has
ask_again-deeper-requires-clause-has c =
    let s = c.args.seat.now in let p = c.args.pool.now in let m = c.args.mutex in let r = c.requires in let rest = r.rest in
    let f = c.depth-held in let t = f.new.seat in let rest' = rest_then s t p rest f.ensures.belongs f.ensures.knows in
    (depth_then_at s t p m f.result f.ensures.belongs f.ensures.knows f.ensures.depth)

pub ask_again-deeper-requires-clause-holds : goal.ask_again-deeper-requires-clause-holds
ask_again-deeper-requires-clause-holds c =
    let s = c.args.seat.now in let p = c.args.pool.now in let m = c.args.mutex in let r = c.requires in let rest = r.rest in
    let f = c.depth-held in let t = f.new.seat in let rest' = rest_then s t p rest f.ensures.belongs f.ensures.knows in
    ((let some = c.if-held-eq0.false in let e : 0 < f.result = omega (arith, some) in e), c.if-held-lt-MAX_DEPTH.true)

pub returns-then-held-lt-MAX_DEPTH-clause-belongs : goal.returns-then-held-lt-MAX_DEPTH-clause-belongs
returns-then-held-lt-MAX_DEPTH-clause-belongs c =
    let s = c.args.seat.now in let p = c.args.pool.now in let m = c.args.mutex in let r = c.requires in let rest = r.rest in
    let f = c.depth-held in let t = f.new.seat in let rest' = rest_then s t p rest f.ensures.belongs f.ensures.knows in
    let k = c.ask_again-deeper in let u = k.new.seat in (same_then s t u f.ensures.belongs k.ensures.belongs)

pub returns-then-held-lt-MAX_DEPTH-clause-placed : goal.returns-then-held-lt-MAX_DEPTH-clause-placed
returns-then-held-lt-MAX_DEPTH-clause-placed c =
    let s = c.args.seat.now in let p = c.args.pool.now in let m = c.args.mutex in let r = c.requires in let rest = r.rest in
    let f = c.depth-held in let t = f.new.seat in let rest' = rest_then s t p rest f.ensures.belongs f.ensures.knows in
    let k = c.ask_again-deeper in let u = k.new.seat in (deep_rest s u p m rest r.mutex (same_then s t u f.ensures.belongs k.ensures.belongs) AskAgainSteps (f.result + 1) (deepens_then s t u p m f.ensures.belongs f.ensures.knows AskAgainSteps (f.result + 1) k.ensures.deepens))

pub returns-then-held-lt-MAX_DEPTH-clause-asks : goal.returns-then-held-lt-MAX_DEPTH-clause-asks
returns-then-held-lt-MAX_DEPTH-clause-asks c =
    let s = c.args.seat.now in let p = c.args.pool.now in let m = c.args.mutex in let r = c.requires in let rest = r.rest in
    let f = c.depth-held in let t = f.new.seat in let rest' = rest_then s t p rest f.ensures.belongs f.ensures.knows in
    let k = c.ask_again-deeper in let u = k.new.seat in asked_again s u p m f.result k.result k.ensures.deeper (let some = c.if-held-eq0.false in let e : 0 < f.result = omega (arith, some) in e) f.ensures.depth (deepens_then s t u p m f.ensures.belongs f.ensures.knows AskAgainSteps (f.result + 1) k.ensures.deepens)

pub returns-clause-belongs : goal.returns-clause-belongs
returns-clause-belongs c =
    let s = c.args.seat.now in let p = c.args.pool.now in let m = c.args.mutex in let r = c.requires in let rest = r.rest in
    let f = c.depth-held in let t = f.new.seat in let rest' = rest_then s t p rest f.ensures.belongs f.ensures.knows in
    f.ensures.belongs

pub returns-clause-placed : goal.returns-clause-placed
returns-clause-placed c =
    let s = c.args.seat.now in let p = c.args.pool.now in let m = c.args.mutex in let r = c.requires in let rest = r.rest in
    let f = c.depth-held in let t = f.new.seat in let rest' = rest_then s t p rest f.ensures.belongs f.ensures.knows in
    rest'

pub returns-clause-asks : goal.returns-clause-asks
returns-clause-asks c =
    let s = c.args.seat.now in let p = c.args.pool.now in let m = c.args.mutex in let r = c.requires in let rest = r.rest in
    let f = c.depth-held in let t = f.new.seat in let rest' = rest_then s t p rest f.ensures.belongs f.ensures.knows in
    (full s p m f.result f.ensures.depth c.if-held-lt-MAX_DEPTH.false, f.ensures.knows)

pub returns-then-held-eq0-clause-bounded : goal.returns-then-held-eq0-clause-bounded
returns-then-held-eq0-clause-bounded c =
    let s = c.args.seat.now in let p = c.args.pool.now in let m = c.args.mutex in let r = c.requires in let rest = r.rest in
    let f = c.depth-held in let t = f.new.seat in let g = c.has_stamp in let u = g.new.seat in let found = g.ensures.loads.0 in
    let k = c.ask_without_waking-asked in let v = k.new.seat in beside_from_load s t u m found f.ensures.belongs f.ensures.knows g.ensures.belongs g.ensures.loads.1 v (10 + length (popped_of v m)) k.ensures.bounded

pub returns-then-held-lt-MAX_DEPTH-clause-bounded : goal.returns-then-held-lt-MAX_DEPTH-clause-bounded
returns-then-held-lt-MAX_DEPTH-clause-bounded c =
    let s = c.args.seat.now in let p = c.args.pool.now in let m = c.args.mutex in let r = c.requires in let rest = r.rest in
    let f = c.depth-held in let t = f.new.seat in
    let k = c.ask_again-deeper in let u = k.new.seat in asked_again_made s u p m (may_at_rest s p rest m r.mutex) (f.result + 1) (10 + length (popped_of u m)) (omega arith) (deepens_then s t u p m f.ensures.belongs f.ensures.knows AskAgainSteps (f.result + 1) k.ensures.deepens)

pub returns-clause-bounded : goal.returns-clause-bounded
returns-clause-bounded c =
    let s = c.args.seat.now in let p = c.args.pool.now in let m = c.args.mutex in let r = c.requires in let rest = r.rest in
    let f = c.depth-held in let t = f.new.seat in
    refused_beside s t m (10 + length (popped_of t m)) f.ensures.knows

pub returns-then-not-has_take-clause-placed : goal.returns-then-not-has_take-clause-placed
returns-then-not-has_take-clause-placed c =
    let s = c.args.seat.now in let p = c.args.pool.now in let m = c.args.mutex in let r = c.requires in let rest = r.rest in
    let f = c.depth-held in let t = f.new.seat in let rest' = rest_then s t p rest f.ensures.belongs f.ensures.knows in
    rest'

pub returns-then-not-has_take-clause-bounded : goal.returns-then-not-has_take-clause-bounded
returns-then-not-has_take-clause-bounded c =
    let s = c.args.seat.now in let p = c.args.pool.now in let m = c.args.mutex in let r = c.requires in let rest = r.rest in
    let f = c.depth-held in let t = f.new.seat in let rest' = rest_then s t p rest f.ensures.belongs f.ensures.knows in
    refused_beside s t m (10 + length (popped_of t m)) f.ensures.knows

pub returns-then-not-has_stamp-clause-belongs : goal.returns-then-not-has_stamp-clause-belongs
returns-then-not-has_stamp-clause-belongs c =
    let s = c.args.seat.now in let p = c.args.pool.now in let m = c.args.mutex in let r = c.requires in let rest = r.rest in
    let f = c.depth-held in let t = f.new.seat in let g = c.has_stamp in let u = g.new.seat in let found = g.ensures.loads.0 in
    same_both s t u m found f.ensures.belongs f.ensures.knows g.ensures.belongs g.ensures.loads.1

pub returns-then-not-has_stamp-clause-placed : goal.returns-then-not-has_stamp-clause-placed
returns-then-not-has_stamp-clause-placed c =
    let s = c.args.seat.now in let p = c.args.pool.now in let m = c.args.mutex in let r = c.requires in let rest = r.rest in
    let f = c.depth-held in let t = f.new.seat in let g = c.has_stamp in let u = g.new.seat in let found = g.ensures.loads.0 in
    rest_from_load s t u m found f.ensures.belongs f.ensures.knows g.ensures.belongs g.ensures.loads.1 p rest

pub returns-then-not-has_stamp-clause-asks : goal.returns-then-not-has_stamp-clause-asks
returns-then-not-has_stamp-clause-asks c =
    let s = c.args.seat.now in let p = c.args.pool.now in let m = c.args.mutex in let r = c.requires in let rest = r.rest in
    let f = c.depth-held in let t = f.new.seat in let g = c.has_stamp in let u = g.new.seat in let found = g.ensures.loads.0 in
    ((subst (λ (d : ℕ). HasDepthIn s p m d) c.if-held-eq0.true f.ensures.depth), inr (finds_none s t u m found f.ensures.belongs f.ensures.knows g.ensures.belongs g.ensures.loads.1 (sym g.ensures.loads.2 ∙ c.if-not-has_stamp.true)))

pub returns-then-not-has_stamp-clause-spent : goal.returns-then-not-has_stamp-clause-spent
returns-then-not-has_stamp-clause-spent c =
    let s = c.args.seat.now in let p = c.args.pool.now in let m = c.args.mutex in let r = c.requires in let rest = r.rest in
    let f = c.depth-held in let t = f.new.seat in let g = c.has_stamp in let u = g.new.seat in let found = g.ensures.loads.0 in
    λ e. inr (finds_none s t u m found f.ensures.belongs f.ensures.knows g.ensures.belongs g.ensures.loads.1 (sym g.ensures.loads.2 ∙ c.if-not-has_stamp.true))

pub returns-then-not-has_stamp-clause-bounded : goal.returns-then-not-has_stamp-clause-bounded
returns-then-not-has_stamp-clause-bounded c =
    let s = c.args.seat.now in let p = c.args.pool.now in let m = c.args.mutex in let r = c.requires in let rest = r.rest in
    let f = c.depth-held in let t = f.new.seat in let g = c.has_stamp in let u = g.new.seat in let found = g.ensures.loads.0 in
    loads_beside s t u m found f.ensures.belongs f.ensures.knows g.ensures.belongs g.ensures.loads.1 (10 + length (popped_of u m))

pub returns-then-held-eq0-clause-refuses : goal.returns-then-held-eq0-clause-refuses
returns-then-held-eq0-clause-refuses c =
    let s = c.args.seat.now in let p = c.args.pool.now in let m = c.args.mutex in let f = c.depth-held in
    λ flat none. absurd (false≢true (sym none ∙ c.if-not-has_take.false))

pub returns-then-held-lt-MAX_DEPTH-clause-refuses : goal.returns-then-held-lt-MAX_DEPTH-clause-refuses
returns-then-held-lt-MAX_DEPTH-clause-refuses c =
    let s = c.args.seat.now in let p = c.args.pool.now in let m = c.args.mutex in let f = c.depth-held in
    λ flat none. absurd (not_flat s p m f.result f.ensures.depth (let some = c.if-held-eq0.false in let e : 0 < f.result = omega (arith, some) in e) flat)

pub returns-clause-refuses : goal.returns-clause-refuses
returns-clause-refuses c =
    let s = c.args.seat.now in let p = c.args.pool.now in let m = c.args.mutex in let f = c.depth-held in
    λ flat none. absurd (not_flat s p m f.result f.ensures.depth (let some = c.if-held-eq0.false in let e : 0 < f.result = omega (arith, some) in e) flat)
