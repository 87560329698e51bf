-- The faults of a replay that come from its reader or its writer.
use Rattle.lfm_core.specs.declared.text.faults.ReplayFault.{ReplayFault}
use Rattle.lfm_core.specs.declared.text.faults.ReplayFault.TheVariants as Replay
use Rattle.lfm_text.specs.declared.faults.InputFault.{InputFault}
use Rattle.lfm_text.specs.declared.faults.InputFault.TheVariants.{Read, Memory}
use Rattle.lfm_text.specs.declared.faults.WriteFault.{WriteFault}

-- why the input was not read
abbrev pub input_fault : InputFault → ReplayFault
input_fault Read = Replay.Read
input_fault Memory = Replay.Memory

-- why the output was not written
abbrev pub output_fault : WriteFault → ReplayFault
output_fault fault = Replay.Write
