-- A leave that was refused, or that gave up one hold of several.
use Rattle.std.proofs.Common.{◌≡◌, ℕ, IsErrAnd, Result, Ok, Err, refl, sym, subst}
use Rattle.lfm_model.specs.declared.answers.Unlocked.{Unlocked}
use Rattle.lfm_model.specs.declared.refusals.Refusal.{Refusal}
use Rattle.lfm_protocol.specs.declared.answers.Answer.TheVariants as Answered
use Rattle.lfm_protocol.specs.declared.answers.Call.{Call}
use Rattle.lfm_protocol.specs.declared.limits.Limits.{Limits}
use Rattle.lfm_mutex.specs.calls.Sight.{Sight, Unlocks}
use Rattle.lfm_monitor.specs.declared.journaled.Journaled.{Journaled}
use Rattle.lfm_monitor.specs.Passes.{Began, LeaveEnds, PassKept}
use Rattle.lfm_monitor.specs.Steps.{BySteps}

module _ {O A R : Type 0} {K : _} where
  refused_ends : (r : Refusal) (s t : Sight (Journaled O A R K)) (n : ℕ) → Unlocks s t (Err r) → LeaveEnds s t n n (Err r)
  refused_ends Refusal.Asleep s t n h = (h.0, h.1, refl)
  refused_ends Refusal.NotOwner s t n h = (h.0.0, h.0.1, h.1, refl)
  refused_ends Refusal.Nested s t n h = absurd h.0
  refused_ends Refusal.DepthFull s t n h = absurd h.0
  refused_ends Refusal.Spent s t n h = absurd h.0
  refused_ends Refusal.NoSuchSeat s t n h = absurd h.0
  refused_ends Refusal.NotWaiting s t n h = absurd h.0
  refused_ends Refusal.Busy s t n h = absurd h.0

  no_steps : (l : Limits) (r : Refusal) (s t : Sight (Journaled O A R K)) → Unlocks s t (Err r) → BySteps l (λ (x : Unlocked). Answered.Unlocked x) Call.Unlock s t (Err r)
  no_steps l Refusal.Asleep s t h = h.1
  no_steps l Refusal.NotOwner s t h = h.1
  no_steps l Refusal.Nested s t h = h.1
  no_steps l Refusal.DepthFull s t h = h.1
  no_steps l Refusal.Spent s t h = h.1
  no_steps l Refusal.NoSuchSeat s t h = h.1
  no_steps l Refusal.NotWaiting s t h = h.1
  no_steps l Refusal.Busy s t h = absurd h.0

  -- how leave ends with the refusal that `?` passes on
  pub leave_refused : (q : Result Unlocked Refusal) (r : Refusal) (s t : Sight (Journaled O A R K)) (n : ℕ) → Unlocks s t (Err r) → IsErrAnd q (λ y. y ≡ r) → LeaveEnds s t n n q
  leave_refused (Ok u) r s t n h e = absurd e
  leave_refused (Err y) r s t n h e = subst (λ (x : Refusal). LeaveEnds s t n n (Err x)) (sym e) (refused_ends r s t n h)

  pub refused_steps : (l : Limits) (q : Result Unlocked Refusal) (r : Refusal) (s t : Sight (Journaled O A R K)) → Unlocks s t (Err r) → IsErrAnd q (λ y. y ≡ r) → BySteps l (λ (x : Unlocked). Answered.Unlocked x) Call.Unlock s t q
  refused_steps l (Ok u) r s t h e = absurd e
  refused_steps l (Err y) r s t h e = subst (λ (x : Refusal). BySteps l (λ (x : Unlocked). Answered.Unlocked x) Call.Unlock s t (Err x)) (sym e) (no_steps l r s t h)

  pub same_kept : (s t : Sight (Journaled O A R K)) (seen mine : ℕ) → t ≡ s → PassKept s seen mine → PassKept t seen mine
  same_kept s t seen mine is kept = subst (λ (u : Sight (Journaled O A R K)). PassKept u seen mine) (sym is) kept

  pub same_began : (opening : O) (seats share : ℕ) (s t : Sight (Journaled O A R K)) → t ≡ s → Began opening seats share s → Began opening seats share t
  same_began opening seats share s t is of = subst (λ (u : Sight (Journaled O A R K)). Began opening seats share u) (sym is) of

  pub still_began : (opening : O) (seats share d : ℕ) (s t : Sight (Journaled O A R K)) → t ≡ record s { depth = d } → Began opening seats share s → Began opening seats share t
  still_began opening seats share d s t is of = subst (λ (u : Sight (Journaled O A R K)). Began opening seats share u) (sym is) of
