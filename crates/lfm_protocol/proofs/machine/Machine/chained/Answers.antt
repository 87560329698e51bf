use Rattle.std.proofs.Common.{◌≡◌, ◌∙◌, refl}
use Rattle.std.specs.List.{slice_get}
use Rattle.lfm_protocol.specs.Queue.{chain}
use Rattle.lfm_protocol.proofs.Walks.{slice_get-walk, drop-more}
use Rattle.lfm_protocol.proofs.machine.Machine.chained.Goals as goal

pub loop-preserved : goal.loop-preserved
loop-preserved c = c.next.ensures.left ∙ drop-more c.loop.counter _ c.loop.chain c.loop.invariant

pub returns-in-Some : goal.returns-in-Some
returns-in-Some c =
    let met : slice_get (chain c.args.self.now.links c.args.from) c.args.i ≡ c.next-2.result =
    slice_get-walk c.args.i c.loop.counter _ c.loop.chain _ c.loop.auto.counter-end c.loop-test.false c.loop.invariant c.next-2.ensures.record in
    rw (met, c.in-Some.is) refl

pub returns-in-None : goal.returns-in-None
returns-in-None c =
    let met : slice_get (chain c.args.self.now.links c.args.from) c.args.i ≡ c.next-2.result =
    slice_get-walk c.args.i c.loop.counter _ c.loop.chain _ c.loop.auto.counter-end c.loop-test.false c.loop.invariant c.next-2.ensures.record in
    rw (met, c.in-None.is) refl
