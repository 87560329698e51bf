use Rattle.std.proofs.Common.{refl, arith}
use Rattle.lfm_protocol.proofs.Walks.{chain_of-seat}
use Rattle.lfm_protocol.proofs.chains.Chain.next.Goals as goal

pub returns-clause-record : goal.returns-clause-record
returns-clause-record c =
    rw (c.known.ensures, ← c.self.view_is, chain_of-seat c.self.inside.left c.self.inside.links.now c.self.inside.at (omega (arith, c.if-self-eq0.false)) (omega (arith, c.if-self-eq0-2.false)) (omega (arith, c.if-self.false))) refl

pub returns-clause-left : goal.returns-clause-left
returns-clause-left c =
    rw (← c.self.view_is, chain_of-seat c.self.inside.left c.self.inside.links.now c.self.inside.at (omega (arith, c.if-self-eq0.false)) (omega (arith, c.if-self-eq0-2.false)) (omega (arith, c.if-self.false))) refl
