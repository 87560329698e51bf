use Rattle.std.proofs.Common.{arith}
use Rattle.lfm_plain_condvar.specs.declared.waiters.Waiter.{Waiter}
use Rattle.lfm_plain_condvar.specs.Keeping.{Is}
use Rattle.lfm_plain_condvar.proofs.ListFacts.{found_at, none_more, within}
use Rattle.lfm_plain_condvar.proofs.waiters.Waiters.place_of.Goals as goal

pub returns-then-is : goal.returns-then-is
returns-then-is c = let xs = c.args.self.now.list.items in let t = c.loop-i-test.true in let l = c.len-i-end.ensures in let o = c.args.self.now.list.ok in
    (c.index.result.now, found_at xs c.loop-i.i c.index.result.now (omega arith) c.index.ensures, c.if-is.ensures.0, c.if-is.ensures.1)

pub loop-i-preserved : goal.loop-i-preserved
loop-i-preserved c = let xs = c.args.self.now.list.items in let t = c.loop-i-test.true in let l = c.len-i-end.ensures in let o = c.args.self.now.list.ok in
    none_more (λ (x : Waiter). Is c.args.number c.args.ticket x) xs c.loop-i.i c.index.result.now (found_at xs c.loop-i.i c.index.result.now (omega arith) c.index.ensures) c.if-is.ensures c.loop-i.invariant

pub returns : goal.returns
returns c = λ j x at. let h = within c.args.self.now.list.items j x at in let t = c.loop-i-test.false in let l = c.len-i-end.ensures in let o = c.args.self.now.list.ok in c.loop-i.invariant j x (omega arith) at
