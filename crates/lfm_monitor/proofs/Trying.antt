-- Ops that are applied one after another, with waits in between.
use Rattle.std.proofs.Common.{◌≡◌, ℕ, Result, Ok, Err, IsErrAnd, sym, ◌∙◌, ap, subst}
use Rattle.lfm_model.specs.declared.answers.How.{How}
use Rattle.lfm_model.specs.declared.refusals.Refusal.{Refusal}
use Rattle.lfm_mutex.specs.calls.Sight.{Sight}
use Rattle.lfm_monitor.specs.declared.journaled.Journaled.{Journaled}
use Rattle.lfm_monitor.specs.Passes.{ApplyEnds}
use Rattle.lfm_monitor.specs.Conditions.{WaitReturns}

-- a property of each refusal holds of the refusal that `?` passes on
pub handed_on : {X : Type 0} (P : Result X Refusal → Type 0) (q : Result X Refusal) (r : Refusal) → IsErrAnd q (λ y. y ≡ r) → P (Err r) → P q
handed_on P (Ok x) r e h = absurd e
handed_on P (Err y) r e h = subst (λ (x : Refusal). P (Err x)) (sym e) h

module _ {O A R : Type 0} {K : _} (after : O → A → O) (reply : O → A → R) (share : ℕ) (op : A) where
  -- An op leaves the depth as it was, whether refused or not
  pub refused_depth : (r : Refusal) (s t : Sight (Journaled O A R K)) (mine mine' : ℕ) → ApplyEnds after reply share op s t mine mine' (Err r) → t.depth ≡ s.depth
  refused_depth Refusal.Asleep s t mine mine' h = ap (λ (u : Sight (Journaled O A R K)). u.depth) h.1
  refused_depth Refusal.NotOwner s t mine mine' h = ap (λ (u : Sight (Journaled O A R K)). u.depth) h.2
  refused_depth Refusal.Nested s t mine mine' h = absurd h
  refused_depth Refusal.DepthFull s t mine mine' h = absurd h
  refused_depth Refusal.Spent s t mine mine' h = ap (λ (u : Sight (Journaled O A R K)). u.depth) h.3
  refused_depth Refusal.Busy s t mine mine' h = absurd h
  refused_depth Refusal.NoSuchSeat s t mine mine' h = absurd h
  refused_depth Refusal.NotWaiting s t mine mine' h = absurd h

  pub applied_depth : (r : R) (s t : Sight (Journaled O A R K)) (mine mine' : ℕ) → ApplyEnds after reply share op s t mine mine' (Ok r) → t.depth ≡ s.depth
  applied_depth r s t mine mine' h = ap (λ (u : Sight (Journaled O A R K)). u.depth) h.2.3

module _ {O A R : Type 0} {K : _} where
  -- a wait leaves the depth as it was
  pub waited_depth : (r : How × ℕ) (s t : Sight (Journaled O A R K)) (seen seen' mine mine' : ℕ) → WaitReturns s t seen seen' mine mine' (Ok r) → t.depth ≡ s.depth
  waited_depth r s t seen seen' mine mine' h = h.3 ∙ sym h.1
