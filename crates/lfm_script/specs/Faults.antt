-- The faults of a run of workers that come from its reader, its writer or a request for memory.
use Rattle.std.specs.declared.alloc.AllocError.{AllocError}
use Rattle.lfm_script.specs.declared.faults.WorkFault.{WorkFault}
use Rattle.lfm_script.specs.declared.faults.WorkFault.TheVariants as Work
use Rattle.lfm_text.specs.declared.faults.InputFault.{InputFault}
use Rattle.lfm_text.specs.declared.faults.InputFault.TheVariants.{Read, Memory}
use Rattle.lfm_text.specs.declared.faults.WriteFault.{WriteFault}

-- why the input was not read
abbrev pub input_fault : InputFault → WorkFault
input_fault Read = Work.Read
input_fault Memory = Work.Memory

-- why the output was not written
abbrev pub output_fault : WriteFault → WorkFault
output_fault fault = Work.Write

-- a request for memory was refused
abbrev pub memory_fault : AllocError → WorkFault
memory_fault refused = Work.Memory
