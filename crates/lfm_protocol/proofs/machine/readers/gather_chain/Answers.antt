use Rattle.std.proofs.Common.{◌<◌, length, sym, ◌∙◌, ap, arith, length-append}
use Rattle.lfm_protocol.proofs.Walks.{length-some}
use Rattle.lfm_protocol.proofs.machine.readers.gather_chain.Goals as goal

pub push_reserved-requires : goal.push_reserved-requires
push_reserved-requires c =
    let left : 0 < length c.walking.chain = length-some c.walking.chain c.in-Some.record (sym c.next.ensures.record ∙ c.in-Some.is) in
    omega (arith, left, c.requires, c.walking.invariant.room, ap length c.walking.invariant.gathered, length-append c.walking.room.items c.walking.chain, length-append c.args.room.now.items c.args.chain)
