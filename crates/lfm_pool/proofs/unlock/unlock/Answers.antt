use Rattle.lfm_pool.proofs.PassingOn.{has_released, passes_bounded, passes_on}
use Rattle.lfm_pool.proofs.UnlockSteps.{may_release}
use Rattle.lfm_pool.proofs.unlock.unlock.Goals as goal

pub returns-in-Posts-clause-releases : goal.returns-in-Posts-clause-releases
returns-in-Posts-clause-releases c =
    let s = c.args.seat.now in let p = c.args.pool.now in let m = c.args.mutex in let r = c.requires in let t = c.begin_unlock.new.seat in let u = c.post.new.seat in
    has_released c.post.result s u p m (passes_on s t p m (may_release s p m r.belongs r.mutex r.holds r.elsewhere) c.in-Posts.ensures.unlocks u c.in-Posts.ensures.belongs c.post.result c.post.ensures.posts)

pub returns-in-Posts-clause-bounded : goal.returns-in-Posts-clause-bounded
returns-in-Posts-clause-bounded c =
    let s = c.args.seat.now in let p = c.args.pool.now in let m = c.args.mutex in let r = c.requires in let t = c.begin_unlock.new.seat in let u = c.post.new.seat in let may = may_release s p m r.belongs r.mutex r.holds r.elsewhere in
    passes_bounded c.post.result s u p m may (passes_on s t p m may c.in-Posts.ensures.unlocks u c.in-Posts.ensures.belongs c.post.result c.post.ensures.posts)
