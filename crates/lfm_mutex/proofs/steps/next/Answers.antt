use Rattle.std.proofs.Common.{rules, refl}
use Rattle.lfm_table.proofs.tables.Actions.{run_same}
use Rattle.lfm_mutex.proofs.runs.Woken.{woken_none}
use Rattle.lfm_mutex.proofs.steps.next.Goals as goal

pub returns-in-None : goal.returns-in-None
returns-in-None g c = record { acts = record { belongs = search rules; run = run_same; woken = woken_none c.args.seat.now c.args.seat.now refl refl }; step = search rules }
