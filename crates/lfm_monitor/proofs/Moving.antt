-- A pass may move to another thread, and several threads may use the monitor, if the object and its ops may move.
use Rattle.lfm_condvar.specs.contracts.condvar.Condvar as Condvar
use Rattle.lfm_condvar.specs.contracts.cond_seat.CondSeat as CondSeat
use Rattle.lfm_condvar.proofs.condvar.Condvar.TheSendSync as CondvarSend
use Rattle.lfm_condvar.proofs.cond_seat.CondSeat.TheSendSync as CondSeatSend
use Rattle.lfm_plain_condvar.specs.contracts.condvar.PlainCondvar as PlainCondvar
use Rattle.lfm_plain_condvar.specs.contracts.plain_seat.PlainSeat as PlainSeat
use Rattle.lfm_plain_condvar.proofs.condvar.PlainCondvar.TheSendSync as PlainCondvarSend
use Rattle.lfm_plain_condvar.proofs.plain_seat.PlainSeat.TheSendSync as PlainSeatSend
use Rattle.lfm_model.specs.contracts.journals.Entry as Entry
use Rattle.lfm_model.specs.declared.objects.Object.{Ghosts}
use Rattle.lfm_model.proofs.journals.Entry.TheSendSync as EntrySend
use Rattle.lfm_monitor.specs.contracts.journaled.JournaledKept.TheImpl as JournaledKept
use Rattle.lfm_monitor.specs.contracts.journaled.Journaled as Journaled
use Rattle.lfm_monitor.specs.contracts.monitor.Monitor as Monitor
use Rattle.lfm_monitor.specs.contracts.pass.Pass as Pass
use Rattle.lfm_mutex.proofs.mutex.Mutex.TheSendSync as MutexSend
use Rattle.lfm_mutex.proofs.seat.Seat.TheSendSync as SeatSend
use Rattle.std.below.std_heap.proofs.GlobalAllocator.TheSendSync as GlobalFrees
use Rattle.std.proofs.Crossing.{crosses}
use Rattle.std.proofs.alloc.Global.TheSendSync as GlobalSend
use Rattle.std.proofs.vec.Vec.TheSendSync as VecSend
use Rattle.std.specs.contracts.alloc.Global as Global
use Rattle.std.specs.contracts.impls.GlobalAllocator.TheImpl as GlobalImpl
use Rattle.std.specs.Prelude.{ℕ, List, [], ◌∷◌}
use denote.Param.{param}
use denote.Param.Send as Send
use denote.RattleType.{RattleType}
use denote.Ref.{NamedLft}
use denote.Struct.Declared as Declared
use denote.Struct.Field as Field
use denote.Struct.Struct as Struct
use denote.Struct.Tuple as Tuple

module _ (O A R : RattleType) (g : Ghosts O.Denot A.Denot R.Denot) where
  -- what the monitor guards may move to another thread
  pub journaled_send : Send.IsSend O → Send.IsSend A → Send.IsSend (Journaled.the_row O A R g)
  journaled_send so sa = Send.recorded_send (Journaled.the_field O A R g).row _ _ (Journaled.the_type O A R g).to_one
      (Send.struct_send (Declared.shape (Journaled.the_type O A R g)) (
        so,
        (
          VecSend.the_send (Entry.the_row A) Global.the_row GlobalImpl.ghosts (EntrySend.the_send A sa) GlobalSend.the_send GlobalFrees.the_frees,
          (
            search crosses,
            (
              Send.plain_send _ _ _ _ _,
              (Send.plain_send _ _ _ _ _, tt),
            ),
          ),
        ),
      ))

  -- a pass may move to another thread
  pub pass_send : Send.IsSend O → Send.IsSend A → Send.IsSend (Pass.the_row O A R g)
  pass_send so sa = Send.recorded_send (Pass.the_field O A R g).row _ _ (Pass.the_type O A R g).to_one
      (Send.struct_send (Declared.shape (Pass.the_type O A R g)) (
        SeatSend.the_field_send (Journaled.the_row O A R g) (journaled_send so sa),
        (
          Send.plain_send _ _ _ _ _,
          (
            Send.plain_send _ _ _ _ _,
            (
              VecSend.the_send CondSeat.the_row Global.the_row GlobalImpl.ghosts CondSeatSend.the_send GlobalSend.the_send GlobalFrees.the_frees,
              (VecSend.the_send PlainSeat.the_row Global.the_row GlobalImpl.ghosts PlainSeatSend.the_send GlobalSend.the_send GlobalFrees.the_frees, tt),
            ),
          ),
        ),
      ))

  -- several threads may use the monitor
  pub monitor_sync : Send.IsSend O → Send.IsSend A → Send.IsSync (Monitor.the_row O A R g)
  monitor_sync so sa = Send.recorded_sync (Monitor.the_field O A R g).row _ _ (Monitor.the_type O A R g).to_one
      (Send.struct_sync (Declared.shape (Monitor.the_type O A R g)) (
        MutexSend.the_field_sync (Journaled.the_row O A R g) (JournaledKept.ghosts O A R g JournaledKept.no_dict JournaledKept.no_dict JournaledKept.no_dict JournaledKept.no_dict) (journaled_send so sa),
        (
          search crosses,
          (
            Send.plain_sync _ _ _ _ _,
            (
              VecSend.the_sync Condvar.the_row Global.the_row GlobalImpl.ghosts CondvarSend.the_sync GlobalSend.the_sync,
              (VecSend.the_sync PlainCondvar.the_row Global.the_row GlobalImpl.ghosts PlainCondvarSend.the_sync GlobalSend.the_sync, tt),
            ),
          ),
        ),
      ))

  -- the captures of a closure that works with the monitor in some thread: the runtime and the monitor
  abbrev pub captures : NamedLft → NamedLft → RattleType → List RattleType
  captures runs lent T = (Field.shr_ref_field runs (param 0 T) tt).row ∷ (Field.shr_ref_field lent (Monitor.the_row O A R g) tt).row ∷ []

  -- such a closure, with this name, may be shared by several threads
  pub closure_sync : (name : List ℕ) (runs lent : NamedLft) (T : RattleType) → Send.IsSync (param 0 T) → Send.IsSend O → Send.IsSend A → Send.IsSync (Tuple.TupleAt name (captures runs lent T))
  closure_sync name runs lent T y so sa = let C = Tuple.type_at name (captures runs lent T) in Send.recorded_sync (Struct.Struct (Declared.shape C)) C.D C.to C.to_one
      (Send.struct_sync (Declared.shape C) (
        Send.shr_sync runs.mir runs.lft (param 0 T) y,
        (Send.shr_sync lent.mir lent.lft (Monitor.the_row O A R g) (monitor_sync so sa), tt),
      ))
