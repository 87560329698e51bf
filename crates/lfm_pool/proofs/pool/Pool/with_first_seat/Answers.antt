use Rattle.std.proofs.Common.{◌∙◌}
use Rattle.lfm_pool.proofs.Opening.{posts_open}
use Rattle.lfm_pool.proofs.pool.Pool.with_first_seat.Goals as goal

pub of_words-requires : goal.of_words-requires
of_words-requires c =
    posts_open c.args.mutexes c.args.limits c.requires.seats c.as_slice.result.now (c.as_slice.ensures.value ∙ c.in-Ok.ensures.items_if_clones_equal (λ y q. q))
