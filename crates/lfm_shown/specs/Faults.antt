-- The faults of a replay that come from a printed graph.
use Rattle.lfm_core.specs.declared.text.faults.ReplayFault.{ReplayFault}
use Rattle.lfm_core.specs.declared.text.faults.ReplayFault.TheVariants as Replay
use Rattle.lfm_shown.specs.declared.graphs.faults.GraphFault.{GraphFault}
use Rattle.lfm_shown.specs.declared.graphs.faults.GraphFault.TheVariants.{Write, Memory}

-- why the graph was not printed
abbrev pub replay_fault : GraphFault → ReplayFault
replay_fault Write = Replay.Write
replay_fault Memory = Replay.Memory
