use Rattle.std.proofs.Common.{ℕ, sym, ap, ◌∙◌, ◌+◌, subst, arith}
use Rattle.lfm_words.specs.declared.links.Link.{Link}
use Rattle.lfm_pool.specs.Depths.{HasDepthIn}
use Rattle.lfm_pool.proofs.DeepCalls.{carries_then, depth_none, depth_then}
use Rattle.lfm_pool.proofs.SeveralSteps.{same_then}
use Rattle.lfm_pool.proofs.depth.depth.Goals as goal

pub returns-then-owner-number-clause-depth : goal.returns-then-owner-number-clause-depth
returns-then-owner-number-clause-depth c =
    let s = c.args.seat.now in let r = c.requires in let f = c.read_owner-owner in
    depth_none s c.args.pool.now c.args.mutex r.rests.0 f.result r.rests.1 f.ensures.tells (λ e. c.if-owner-number.true (e ∙ sym f.ensures.belongs.number))

pub carried_load-carried-requires-clause-belongs : goal.carried_load-carried-requires-clause-belongs
carried_load-carried-requires-clause-belongs c =
    let f = c.read_owner-owner in record { table = f.ensures.belongs.table ∙ c.requires.belongs.table; parts = f.ensures.belongs.parts ∙ c.requires.belongs.parts }

pub carried_load-carried-requires-clause-carries : goal.carried_load-carried-requires-clause-carries
carried_load-carried-requires-clause-carries c =
    let s = c.args.seat.now in let r = c.requires in let f = c.read_owner-owner in
    carries_then s c.args.pool.now c.args.mutex r.rests.0 f.result r.rests.1 f.ensures.tells (c.if-owner-number.false ∙ f.ensures.belongs.number) f.new.seat f.ensures.knows

pub returns-clause-belongs : goal.returns-clause-belongs
returns-clause-belongs c = same_then c.args.seat.now c.read_owner-owner.new.seat c.carried_load-carried.new.seat c.read_owner-owner.ensures.belongs c.carried_load-carried.ensures.belongs

pub returns-clause-knows : goal.returns-clause-knows
returns-clause-knows c = c.carried_load-carried.ensures.knows ∙ c.read_owner-owner.ensures.knows

pub overflow_cast-result : goal.overflow_cast-result
overflow_cast-result c =
    let s = c.args.seat.now in let r = c.requires in let f = c.read_owner-owner in let l = c.carried_load-carried in
    let told = depth_then s c.args.pool.now c.args.mutex r.rests.0 f.result r.rests.1 f.ensures.tells (c.if-owner-number.false ∙ f.ensures.belongs.number) f.new.seat f.ensures.knows l.result l.ensures.finds l.ensures.within in
    let stamp = ap (λ (k : Link). k.stamp) c.unpack_link-more.ensures.holds in
    let most = r.rests.1.most in
    omega (arith, told, stamp, most)

pub overflow_add-result : goal.overflow_add-result
overflow_add-result c =
    let s = c.args.seat.now in let r = c.requires in let f = c.read_owner-owner in let l = c.carried_load-carried in
    let told = depth_then s c.args.pool.now c.args.mutex r.rests.0 f.result r.rests.1 f.ensures.tells (c.if-owner-number.false ∙ f.ensures.belongs.number) f.new.seat f.ensures.knows l.result l.ensures.finds l.ensures.within in
    let stamp = ap (λ (k : Link). k.stamp) c.unpack_link-more.ensures.holds in
    let most = r.rests.1.most in
    omega (arith, told, stamp, most)

pub returns-clause-depth : goal.returns-clause-depth
returns-clause-depth c =
    let s = c.args.seat.now in let r = c.requires in let f = c.read_owner-owner in let l = c.carried_load-carried in
    let told = depth_then s c.args.pool.now c.args.mutex r.rests.0 f.result r.rests.1 f.ensures.tells (c.if-owner-number.false ∙ f.ensures.belongs.number) f.new.seat f.ensures.knows l.result l.ensures.finds l.ensures.within in
    let stamp = ap (λ (k : Link). k.stamp + 1) c.unpack_link-more.ensures.holds in
    subst (λ (d : ℕ). HasDepthIn s c.args.pool.now c.args.mutex d) (sym (stamp ∙ told)) r.rests.1
