use Rattle.std.proofs.Common.{rules}
use Rattle.lfm_table.proofs.moving_box.MovingBox.oldest.Goals as goal

pub returns : goal.returns
returns g c = search rules
