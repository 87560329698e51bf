use Rattle.lfm_core.proofs.texts.LineEvents.{lines_are_events}
use Rattle.lfm_core.proofs.laws.schedules.lines_are_events.Goals as goal

pub returns : goal.returns
returns c = lines_are_events
