-- What a worker's thread gets, and what it returns, may be sent to another thread.
use Rattle.lfm_condvar.specs.contracts.cond_seat.CondSeat as CondSeat
use Rattle.lfm_condvar.proofs.cond_seat.CondSeat.TheSendSync as CondSeatSend
use Rattle.lfm_model.specs.contracts.objects.Total as Total
use Rattle.lfm_model.specs.contracts.objects.TotalOp as TotalOp
use Rattle.lfm_model.specs.contracts.objects.TotalObject.TheImpl as TheImpl
use Rattle.lfm_model.proofs.objects.Total.TheSendSync as TotalSend
use Rattle.lfm_model.proofs.objects.TotalOp.TheSendSync as TotalOpSend
use Rattle.lfm_monitor.specs.contracts.journaled.Journaled as Journaled
use Rattle.lfm_monitor.specs.contracts.monitor.Monitor as Monitor
use Rattle.lfm_monitor.specs.contracts.pass.Pass as Pass
use Rattle.lfm_monitor.proofs.Moving.{journaled_send, monitor_sync, pass_send}
use Rattle.lfm_mutex.proofs.seat.Seat.TheSendSync as SeatSend
use Rattle.lfm_program.proofs.workers.WorkerEnd.TheSendSync as WorkerEndSend
use Rattle.lfm_plain_condvar.specs.contracts.plain_seat.PlainSeat as PlainSeat
use Rattle.lfm_plain_condvar.proofs.plain_seat.PlainSeat.TheSendSync as PlainSeatSend
use Rattle.lfm_script.proofs.script.Command.TheSendSync as CommandSend
use Rattle.lfm_program.proofs.starting_line.StartingLine.TheSendSync as LineSend
use Rattle.lfm_script.specs.contracts.script.Command as Command
use Rattle.lfm_program.specs.contracts.starting_line.StartingLine as StartingLine
use Rattle.lfm_program.specs.contracts.workers.Worked as Worked
use Rattle.std.below.std_heap.proofs.GlobalAllocator.TheSendSync as GlobalFrees
use Rattle.std.proofs.alloc.Global.TheSendSync as GlobalSend
use Rattle.std.proofs.vec.Vec.TheSendSync as VecSend
use Rattle.std.specs.Prelude.{ℕ, List, [], ◌∷◌}
use Rattle.std.specs.contracts.alloc.Global as Global
use Rattle.std.specs.contracts.impls.GlobalAllocator.TheImpl as GlobalImpl
use denote.Builtin as Builtin
use denote.Param.{param}
use denote.Param.Send as Send
use denote.RattleType.{RattleType}
use denote.Ref.{NamedLft}
use denote.Struct.Declared as Declared
use denote.Struct.Field as Field
use denote.Struct.Struct as Struct
use denote.Struct.Tuple as Tuple

abbrev journaled : RattleType
journaled = Journaled.the_row Total.the_row TotalOp.the_row Builtin.u64 TheImpl.ghosts

abbrev monitor : RattleType
monitor = Monitor.the_row Total.the_row TotalOp.the_row Builtin.u64 TheImpl.ghosts

abbrev pass : RattleType
pass = Pass.the_row Total.the_row TotalOp.the_row Builtin.u64 TheImpl.ghosts

total_pass_send : Send.IsSend pass
total_pass_send = pass_send Total.the_row TotalOp.the_row Builtin.u64 TheImpl.ghosts TotalSend.the_send TotalOpSend.the_send

total_monitor_sync : Send.IsSync monitor
total_monitor_sync = monitor_sync Total.the_row TotalOp.the_row Builtin.u64 TheImpl.ghosts TotalSend.the_send TotalOpSend.the_send

pass_field_send : Send.IsSend (Pass.the_field Total.the_row TotalOp.the_row Builtin.u64 TheImpl.ghosts).row
pass_field_send = Send.struct_send (Declared.shape (Pass.the_type Total.the_row TotalOp.the_row Builtin.u64 TheImpl.ghosts)) (
  SeatSend.the_field_send journaled (journaled_send Total.the_row TotalOp.the_row Builtin.u64 TheImpl.ghosts TotalSend.the_send TotalOpSend.the_send),
  (
    Send.plain_send _ _ _ _ _,
    (
      Send.plain_send _ _ _ _ _,
      (
        VecSend.the_send CondSeat.the_row Global.the_row GlobalImpl.ghosts CondSeatSend.the_send GlobalSend.the_send GlobalFrees.the_frees,
        (VecSend.the_send PlainSeat.the_row Global.the_row GlobalImpl.ghosts PlainSeatSend.the_send GlobalSend.the_send GlobalFrees.the_frees, tt),
      ),
    ),
  ),
)

pub worked_send : Send.IsSend Worked.the_row
worked_send = Send.recorded_send (Worked.the_field).row _ _ (Worked.the_type).to_one (Send.struct_send (Declared.shape Worked.the_type) (pass_field_send, (WorkerEndSend.the_field_send, tt)))

-- what the closure of a worker's thread captures: the runtime, the starting line, the monitor, its pass, its commands and the
-- gate
abbrev pub held : (places : NamedLft × NamedLft × NamedLft × NamedLft × NamedLft) → RattleType → RattleType → List RattleType
held p R G =
    (Field.shr_ref_field p.0 (param 0 R) tt).row ∷ (Field.shr_ref_field p.1 StartingLine.the_row tt).row ∷ (Field.shr_ref_field p.2 monitor tt).row ∷ pass
    ∷ (Field.shr_slice_field p.3 Command.the_row tt).row ∷ (Field.shr_ref_field p.4 (param 1 G) tt).row ∷ []

pub held_send : (name : List ℕ) (p : NamedLft × NamedLft × NamedLft × NamedLft × NamedLft) (R G : RattleType) → Send.IsSync (param 0 R) → Send.IsSync (param 1 G)
    → Send.IsSend (Tuple.TupleAt name (held p R G))
held_send name p R G yr yg = let T = Tuple.type_at name (held p R G) in Send.recorded_send (Struct.Struct (Declared.shape T)) T.D T.to T.to_one (Send.struct_send (Declared.shape T) (
  Send.shr_send p.0.mir p.0.lft (param 0 R) yr,
  (
    Send.shr_send p.1.mir p.1.lft StartingLine.the_row LineSend.the_sync,
    (
      Send.shr_send p.2.mir p.2.lft monitor total_monitor_sync,
      (
        total_pass_send,
        (
          Send.shr_slice_send p.3.mir p.3.lft Command.the_row CommandSend.the_sync,
          (Send.shr_send p.4.mir p.4.lft (param 1 G) yg, tt),
        ),
      ),
    ),
  ),
))
