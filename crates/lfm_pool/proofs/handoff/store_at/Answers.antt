use Rattle.std.proofs.Common.{ℕ, ◌+◌, sym, ap, ◌∙◌, arith}
use Rattle.lfm_words.specs.Words.{handoff_word}
use Rattle.lfm_pool.proofs.HandoffSteps.{store_required}
use Rattle.lfm_pool.proofs.handoff.store_at.Goals as goal

pub own_at-index-requires : goal.own_at-index-requires
own_at-index-requires g c = let less = c.requires.inside.0 in let few = c.args.pool.now.few.1 in omega (arith, less, few)

pub store-requires : goal.store-requires
store-requires g c =
    let b = g.B.OneMutex in let r = c.requires in let s = c.args.seat.now in
    store_required c.args.pool.now s c.args.mutex b.mutex b.state b.hand b.slots c.own_at-index.result r.one.0 r.now r.table r.inside r.can r.elsewhere c.own_at-index.ensures c.pack_handoff-post.result b.number r.one.1 r.at r.whole
    (c.pack_handoff-post.ensures ∙ ap (λ (k : ℕ). handoff_word (record { seat = s.number; post = k + 1 })) (sym s.counted)) (let left = r.left in let same = s.counted in omega (arith, left, same))
