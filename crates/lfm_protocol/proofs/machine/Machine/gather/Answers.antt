use Rattle.std.proofs.Common.{◌≡◌, ◌+◌, ◌++◌, ap, arith, length, reverse, length-append}
use Rattle.std.proofs.lemmas.List.{length-reverse}
use Rattle.lfm_protocol.specs.Core.{Core}
use Rattle.lfm_protocol.specs.Queue.{chain, unwalked, queue_of}
use Rattle.lfm_protocol.proofs.machine.Machine.gather.Goals as goal

-- the length of the queue is the sum of the lengths of its parts
length-queue_of : (m : Core) → length (queue_of m) ≡ length (chain m.links (unwalked m.seats)) + (length m.popped + length (chain m.links m.push.next))
length-queue_of m =
    let walked = chain m.links (unwalked m.seats) in
    let pushed = chain m.links m.push.next in
    omega (arith, length-append (reverse walked) (m.popped ++ reverse pushed), length-append m.popped (reverse pushed), length-reverse walked, length-reverse pushed)

pub gather_chain-requires : goal.gather_chain-requires
gather_chain-requires c =
    omega (arith, c.requires, length-queue_of c.args.self.now, ap length c.clear.ensures.items, c.clear.ensures.capacity, ap length c.new.ensures, ap (λ links. length (chain links c.self.inside.push.next)) c.deref.ensures.value, ap (λ m. length (chain m.links m.push.next)) c.self.view_is)

pub gather_popped-requires : goal.gather_popped-requires
gather_popped-requires c =
    omega (arith, c.requires, length-queue_of c.args.self.now, ap length c.gather_chain.ensures.gathered, length-append c.clear.new.self.items c.new.result, ap length c.clear.ensures.items, ap length c.new.ensures, ap (λ links. length (chain links c.self.inside.push.next)) c.deref.ensures.value, ap (λ m. length (chain m.links m.push.next)) c.self.view_is, ap length c.newest_first.ensures, length-reverse c.newest_first.result.now, ap (λ m. length m.popped) c.self.view_is, c.gather_chain.ensures.room, c.clear.ensures.capacity)

pub gather_chain-requires-2 : goal.gather_chain-requires-2
gather_chain-requires-2 c =
    omega (arith, c.requires, length-queue_of c.args.self.now, ap length c.gather_chain.ensures.gathered, length-append c.clear.new.self.items c.new.result, ap length c.clear.ensures.items, ap length c.new.ensures, ap (λ links. length (chain links c.self.inside.push.next)) c.deref.ensures.value, ap (λ m. length (chain m.links m.push.next)) c.self.view_is, ap length c.newest_first.ensures, length-reverse c.newest_first.result.now, ap (λ m. length m.popped) c.self.view_is, ap length c.new-2.ensures, ap (λ links. length (chain links c.unwalked.result)) c.deref-2.ensures.value, ap (λ t. length (chain c.self.inside.links.items t)) c.unwalked.ensures, ap (λ m. length (chain m.links (unwalked c.args.self.now.seats))) c.self.view_is, ap length c.gather_popped.ensures.gathered, length-append c.gather_chain.new.room.items c.newest_first.result.now, c.gather_popped.ensures.room, c.gather_chain.ensures.room, c.clear.ensures.capacity)
