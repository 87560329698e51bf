-- A call of the monitor that an add makes is refused only because the pass is used up.
use Rattle.std.proofs.Common.{◌≡◌, ◌∙◌, ⊎_elim, inl, inr, ℕ, sym, subst, ap, arith, Err, Ok, Result, IfErr, true≢false}
use Rattle.std.specs.Bool.{⊤}
use Rattle.std.specs.Prelude.{IsErrAnd}
use Rattle.lfm_model.specs.declared.objects.Total.{Total}
use Rattle.lfm_model.specs.declared.objects.TotalOp.{TotalOp}
use Rattle.lfm_model.specs.declared.refusals.Refusal.{Refusal}
use Rattle.lfm_model.specs.declared.refusals.Refusal.TheVariants.{Asleep, NotOwner, Nested, DepthFull, Spent, NoSuchSeat, NotWaiting, Busy}
use Rattle.lfm_mutex.specs.Close.{Idle}
use Rattle.lfm_monitor.specs.declared.monitor.Monitor.{Monitor}
use Rattle.lfm_monitor.specs.declared.pass.Pass.{Pass}
use Rattle.lfm_monitor.specs.Belongs.{mine_of, pass_sight, share_of}
use Rattle.lfm_monitor.specs.Passes.{ApplyEnds, EnterEnds}
use Rattle.lfm_script.specs.declared.script.Command.TheVariants.{Add}
use Rattle.lfm_program.specs.Causes.{HasCause}
use Rattle.lfm_program.specs.Performs.{HoldsOnce}

-- the refusal that `?` passes on has the same cause
pub passed_on : (P : Refusal → Type 0) (r : Refusal) (x : Result ⊤ Refusal) → P r → IsErrAnd x (λ y. y ≡ r) → IfErr x P
passed_on P r (Ok u) p e = tt
passed_on P r (Err y) p e = subst P (sym e) p

module _ {R : Type 0} {K : _} where
  pub not_entered_to_add : (m : Monitor Total TotalOp R K) (p q : Pass Total TotalOp R K) (k : ℕ) (r : Refusal) → Idle (pass_sight p)
      → EnterEnds (share_of m) (pass_sight p) (pass_sight q) (mine_of p) (mine_of q) (Err r) → HasCause (Add k) m q r
  not_entered_to_add m p q k Spent idle e =
      ⊎_elim (λ l. inl (let a = e.2 in omega arith)) (λ l. inr (let a = ap (λ u. u.takes) e.1 in omega arith)) e.0.2
  not_entered_to_add m p q k Asleep idle e = absurd (true≢false (sym e.0 ∙ idle.1))
  not_entered_to_add m p q k DepthFull idle e = absurd (let a = idle.0 in let b = e.0.1 in omega arith)
  not_entered_to_add m p q k NotOwner idle e = absurd e.0
  not_entered_to_add m p q k Nested idle e = absurd e.0
  not_entered_to_add m p q k NoSuchSeat idle e = absurd e.0
  not_entered_to_add m p q k NotWaiting idle e = absurd e.0
  not_entered_to_add m p q k Busy idle e = absurd e.0

module _ {R : Type 0} {K : _} (after : Total → TotalOp → Total) (reply : Total → TotalOp → R) where
  -- a refused addition has a cause, also after the pass has left the monitor
  pub not_added : (m : Monitor Total TotalOp R K) (p q v : Pass Total TotalOp R K) (op : TotalOp) (k : ℕ) (r : Refusal) → HoldsOnce (pass_sight p)
      → ApplyEnds after reply (share_of m) op (pass_sight p) (pass_sight q) (mine_of p) (mine_of q) (Err r) → mine_of v ≡ mine_of q → HasCause (Add k) m v r
  not_added m p q v op k Spent h e mine = inl (let a = e.2 in let b = e.4 in omega arith)
  not_added m p q v op k Asleep h e mine = absurd (true≢false (sym e.0 ∙ h.awake))
  not_added m p q v op k NotOwner h e mine = absurd (let a = h.depth in let b = e.1 in omega arith)
  not_added m p q v op k DepthFull h e mine = absurd e
  not_added m p q v op k Nested h e mine = absurd e
  not_added m p q v op k NoSuchSeat h e mine = absurd e
  not_added m p q v op k NotWaiting h e mine = absurd e
  not_added m p q v op k Busy h e mine = absurd e
