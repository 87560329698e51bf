use Rattle.lfm_monitor.specs.Belongs.{OfMonitor}
use Rattle.lfm_monitor.specs.Rounds.{AllGoOn}
use Rattle.lfm_monitor.proofs.monitor.Monitor.make_rounds.Given as goal

-- each round so far returned Continue
abbrev pub invariant-rounds : goal.invariant-rounds
invariant-rounds g l = record {
  belongs : OfMonitor l.pass l.self;
  rounds : AllGoOn l.self (λ i p q r. g.S.CriticalSection.makes l.section i p q r) l.round l.fn.pass l.pass;
}
