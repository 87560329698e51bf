use Rattle.std.proofs.Common.{refl}
use Rattle.lfm_mutex.proofs.try_lock.try_slow.Goals as goal

pub expect_none-requires : goal.expect_none-requires
expect_none-requires g c = c.begin_and_finish-turn.ensures.none refl
