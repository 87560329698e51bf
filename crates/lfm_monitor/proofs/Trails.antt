-- The steps of a monitor's calls are those of the mutex's calls: what is written into the journal afterwards is no step.
use Rattle.std.proofs.Common.{◌≡◌, ℕ, ⊎_elim, inl, inr, Option, sym, subst, Ok}
use Rattle.lfm_model.specs.declared.answers.How.{How}
use Rattle.lfm_model.specs.declared.answers.Locked.{Locked}
use Rattle.lfm_protocol.specs.declared.answers.Call.{Call}
use Rattle.lfm_protocol.specs.declared.answers.Turn.{Turn}
use Rattle.lfm_protocol.specs.declared.limits.Limits.{Limits}
use Rattle.lfm_mutex.specs.calls.Barging.{BargesBy}
use Rattle.lfm_mutex.specs.calls.Sight.{Sight}
use Rattle.lfm_mutex.specs.calls.Trails.{Makes, LocksBy}
use Rattle.lfm_monitor.specs.declared.enter.Locking.{Locking}
use Rattle.lfm_monitor.specs.Steps.{ByLockingAs}

module _ {T : Type 0} (l : Limits) where
  -- A seat made the steps of a call. It still has made them after its value alone was changed
  pub rewritten : (call : Call) (s t u : Sight T) (turn : Turn) (v : Option T) → u ≡ record t { value = v } → Makes l call s t turn → Makes l call s u turn
  rewritten call s t u turn v is m = subst (λ (z : Sight T). Makes l call s z turn) (sym is)
      (m.0, m.1, m.2, record { depth = m.3.depth; takes = m.3.takes; asleep = m.3.asleep; in_call = m.3.in_call }, m.4)

  in_order_rewritten : (how : How) (s t u : Sight T) (v : Option T) → u ≡ record t { value = v } → LocksBy l s t (Ok (Locked.Held how)) → LocksBy l s u (Ok (Locked.Held how))
  in_order_rewritten how s t u v is locks = ⊎_elim (λ m. inl (rewritten Call.Lock s t u _ v is m))
      (λ m. inr (m.0, m.1, (m.2.0, m.2.1, m.2.2, rewritten Call.Receive m.2.1 t u _ v is m.2.3))) locks

  -- either a try held, or the mutex was locked in order after the failed tries
  barging_rewritten : (n : ℕ) (how : How) (s t u : Sight T) (v : Option T) → u ≡ record t { value = v } → BargesBy l n s t (Ok (Locked.Held how)) → BargesBy l n s u (Ok (Locked.Held how))
  barging_rewritten n how s t u v is barges = ⊎_elim (λ m. inl (m.0, m.1, m.2, m.3, rewritten Call.TryLock m.1 t u _ v is m.4))
      (λ m. inr (m.0, m.1, in_order_rewritten how m.0 t u v is m.2)) barges

  pub locked_rewritten : (locking : Locking) (n : ℕ) (how : How) (s t u : Sight T) (v : Option T) → u ≡ record t { value = v } → ByLockingAs l locking n s t (Ok (Locked.Held how)) → ByLockingAs l locking n s u (Ok (Locked.Held how))
  locked_rewritten Locking.InOrder n how s t u v is locks = in_order_rewritten how s t u v is locks
  locked_rewritten Locking.Barging n how s t u v is locks = barging_rewritten n how s t u v is locks
