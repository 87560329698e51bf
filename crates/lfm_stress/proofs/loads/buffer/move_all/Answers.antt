use Rattle.std.proofs.Common.{arith}
use Rattle.lfm_stress.proofs.Moving.{captures, closure_sync}
use Rattle.lfm_buffer.proofs.Buffer.TheSendSync as BufferSend
use Rattle.lfm_buffer.proofs.BufferOp.TheSendSync as BufferOpSend
use Rattle.lfm_stress.proofs.loads.buffer.move_all.Goals as goal
use Rattle.lfm_buffer.specs.contracts.Buffer as Buffer
use Rattle.lfm_buffer.specs.contracts.BufferObject.TheImpl as BufferObject
use Rattle.lfm_buffer.specs.contracts.BufferOp as BufferOp
use Rattle.lfm_buffer.specs.contracts.BufferReply as BufferReply
use Rattle.lfm_monitor.proofs.Moving.{pass_send}
use Rattle.std.specs.Prelude.{codes}
use denote.Exit.{no}
use denote.Param.{arg}
use denote.Param.Send as Send
use denote.Ref.{NamedLft}
use denote.Struct.Tuple as Tuple
use mir.Syntax.{named}

-- a pass may move to its thread, and back
pub map_vec-requires-send-J : goal.map_vec-requires-send-J
map_vec-requires-send-J g c κs within = Send.param_send 1 _ (Send.arg_send _ no _ (pass_send Buffer.the_row BufferOp.the_row BufferReply.the_row BufferObject.ghosts BufferSend.the_send BufferOpSend.the_send))

pub map_vec-requires-send-X : goal.map_vec-requires-send-X
map_vec-requires-send-X g c κs within = Send.param_send 2 _ (Send.arg_send _ no _ (pass_send Buffer.the_row BufferOp.the_row BufferReply.the_row BufferObject.ghosts BufferSend.the_send BufferOpSend.the_send))

-- the threads share the monitor and what is to be moved
pub map_vec-requires-sync-F : goal.map_vec-requires-sync-F
map_vec-requires-sync-F g c κs within = let runs : NamedLft = record { mir = named 7; lft = κs.1.1.1.1.1.1.1.0 } in let lent : NamedLft = record { mir = named 8; lft = κs.1.1.1.1.1.1.1.1.0 } in let told : NamedLft = record { mir = named 9; lft = κs.1.1.1.1.1.1.1.1.1.0 } in
    let name = codes "lfm_stress::loads::buffer::fn::move_all::map_vec+Self" in
    let holds = Tuple.TupleAt name (captures runs lent told g.row.R) in
    Send.param_sync 4 (arg _ no holds) (Send.arg_sync _ no holds (closure_sync name runs lent told g.row.R c.type_bounds.sync-R))

-- each thread handed its pass back
pub returns : goal.returns
returns g c = λ i d h. let l = c.in_ok-passes.ensures.len in let a = c.in_ok-passes.passes.ok.0 in let b = c.args.passes.ok.0 in
    (c.in_ok-passes.ensures.each i d (omega arith)).1.call.met
