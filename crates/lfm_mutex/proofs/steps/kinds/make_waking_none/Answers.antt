use Rattle.std.proofs.Common.{◌∙◌}
use Rattle.lfm_table.proofs.tables.Granted.{none_beside}
use Rattle.lfm_mutex.proofs.steps.kinds.make_waking_none.Goals as goal

pub expect_none-requires : goal.expect_none-requires
expect_none-requires g c = c.make_of-turn.ensures.wakes ∙ none_beside c.args.seat.now.state.point c.args.kind c.requires.is_next c.requires.other
