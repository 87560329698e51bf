use Rattle.std.proofs.Common.{arith, inl}
use Rattle.lfm_pool.proofs.step.first_step.Goals as goal

pub own_at-index-requires : goal.own_at-index-requires
own_at-index-requires g c =
    let low = c.requires.is_next.1 in let word = c.word_of.ensures in let less = c.requires.inside.0 in let few = c.args.pool.now.few in omega (arith, low, word, less, few.1)

pub first_at-requires-clause-is_next : goal.first_at-requires-clause-is_next
first_at-requires-clause-is_next g c =
    let is = c.requires.is_next in let word = c.word_of.ensures in let index = c.own_at-index.ensures in
    ((is.0, inl (is.1, omega (arith, word, index)), inl is.1), is.2)
