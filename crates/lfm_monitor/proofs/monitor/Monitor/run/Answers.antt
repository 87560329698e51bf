use Rattle.std.proofs.Common.{subst}
use Rattle.lfm_monitor.specs.declared.monitor.Monitor.{Monitor}
use Rattle.lfm_monitor.specs.Belongs.{OfMonitor}
use Rattle.lfm_monitor.specs.Rounds.{MakesRounds}
use Rattle.lfm_monitor.proofs.Moving.{monitor_sync, pass_send}
use Rattle.lfm_monitor.proofs.monitor.Monitor.run.Goals as goal
use denote.Exit.{no}
use denote.Param.Send as Send

-- threads share the monitor
pub share-requires-sync-S : goal.share-requires-sync-S
share-requires-sync-S g c κs within = Send.param_sync 0 _ (Send.arg_sync _ no _ (monitor_sync _ _ _ g.O.Object c.type_bounds.send-O c.type_bounds.send-O-Op))

-- a pass may move to its thread, and back
pub share-requires-send-P : goal.share-requires-send-P
share-requires-send-P g c κs within = Send.param_send 1 _ (Send.arg_send _ no _ (pass_send _ _ _ g.O.Object c.type_bounds.send-O c.type_bounds.send-O-Op))

pub share-requires-send-X : goal.share-requires-send-X
share-requires-send-X g c κs within = Send.param_send 2 _ (Send.arg_send _ no _ (pass_send _ _ _ g.O.Object c.type_bounds.send-O c.type_bounds.send-O-Op))

-- each thread returned its pass
pub returns-clause-belongs : goal.returns-clause-belongs
returns-clause-belongs g c = λ j q at. let x = c.in_ok-passes.ensures.gives j q at in subst (λ (m : Monitor _ _ _ _). OfMonitor q m) x.2.shows x.2.met.0

pub returns-clause-rounds : goal.returns-clause-rounds
returns-clause-rounds g c = λ j q at. let x = c.in_ok-passes.ensures.gives j q at in
    (x.0, x.1, subst (λ (m : Monitor _ _ _ _). MakesRounds m (λ i p q r. g.S.CriticalSection.makes c.args.section.now i p q r) c.args.rounds x.0 q) x.2.shows x.2.met.1)
