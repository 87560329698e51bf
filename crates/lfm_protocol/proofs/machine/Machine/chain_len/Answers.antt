use Rattle.std.proofs.Common.{◌≡◌, ◌∙◌, ap, zero-add, arith}
use Rattle.lfm_protocol.specs.Queue.{chain}
use Rattle.lfm_protocol.proofs.Walks.{length-chain}
use Rattle.lfm_protocol.proofs.machine.Machine.chain_len.Goals as goal

pub walking-init : goal.walking-init
walking-init c =
    let there : c.new-chain.result ≡ chain c.self.inside.links.items c.args.from = c.new-chain.ensures ∙ ap (λ links. chain links c.args.from) c.deref.ensures.value in
    rw there
    (record {
      met = rw (← c.self.view_is) (zero-add _);
      few = omega (arith, length-chain c.self.inside.links.items c.args.from, c.self.invariant.linked, c.self.invariant.few);
    })
