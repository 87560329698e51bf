-- Several threads may use the closure that works with the monitor of a buffer.
use Rattle.lfm_monitor.specs.contracts.monitor.Monitor as Monitor
use Rattle.lfm_monitor.proofs.Moving.{monitor_sync}
use Rattle.lfm_buffer.proofs.Buffer.TheSendSync as BufferSend
use Rattle.lfm_buffer.proofs.BufferOp.TheSendSync as BufferOpSend
use Rattle.lfm_stress.proofs.loads.buffer.Delivery.TheSendSync as DeliverySend
use Rattle.lfm_buffer.specs.contracts.Buffer as Buffer
use Rattle.lfm_buffer.specs.contracts.BufferObject.TheImpl as BufferObject
use Rattle.lfm_buffer.specs.contracts.BufferOp as BufferOp
use Rattle.lfm_buffer.specs.contracts.BufferReply as BufferReply
use Rattle.lfm_stress.specs.contracts.loads.buffer.Delivery as Delivery
use Rattle.std.specs.Prelude.{ℕ, List, [], ◌∷◌}
use denote.Param.{param}
use denote.Param.Send as Send
use denote.RattleType.{RattleType}
use denote.Ref.{NamedLft}
use denote.Struct.Declared as Declared
use denote.Struct.Field as Field
use denote.Struct.Struct as Struct
use denote.Struct.Tuple as Tuple

-- the monitor of a buffer
abbrev pub guarded : RattleType
guarded = Monitor.the_row Buffer.the_row BufferOp.the_row BufferReply.the_row BufferObject.ghosts

-- what the closure captures: the runtime's handle, the monitor, and what is to be moved
abbrev pub captures : NamedLft → NamedLft → NamedLft → RattleType → List RattleType
captures runs lent told T = (Field.shr_ref_field runs (param 0 T) tt).row ∷ (Field.shr_ref_field lent guarded tt).row ∷ (Field.shr_ref_field told Delivery.the_row tt).row ∷ []

pub closure_sync : (name : List ℕ) (runs lent told : NamedLft) (T : RattleType) → Send.IsSync (param 0 T) → Send.IsSync (Tuple.TupleAt name (captures runs lent told T))
closure_sync name runs lent told T y = let C = Tuple.type_at name (captures runs lent told T) in Send.recorded_sync (Struct.Struct (Declared.shape C)) C.D C.to C.to_one
    (Send.struct_sync (Declared.shape C) (
      Send.shr_sync runs.mir runs.lft (param 0 T) y,
      (
        Send.shr_sync lent.mir lent.lft guarded (monitor_sync Buffer.the_row BufferOp.the_row BufferReply.the_row BufferObject.ghosts BufferSend.the_send BufferOpSend.the_send),
        (Send.shr_sync told.mir told.lft Delivery.the_row DeliverySend.the_sync, tt),
      ),
    ))
