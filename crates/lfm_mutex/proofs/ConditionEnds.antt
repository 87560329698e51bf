-- What the test of a condition shows, and how answers are taken apart that a call passes on.
use Rattle.std.proofs.Common.{◌≡◌, Bool, true, false, Some, Result, Ok, Err, IsErrAnd, MatchBool, sym, subst, ◌∙◌}
use Rattle.lfm_model.specs.declared.refusals.Refusal.{Refusal}
use Rattle.lfm_mutex.specs.calls.Sight.{Sight}
use Rattle.lfm_mutex.specs.Conditions.{NeedNotWait, WouldWait}

-- a property of each refusal holds of the refusal that `?` passes on
pub handed_on : {X : Type 0} (P : Result X Refusal → Type 0) (q : Result X Refusal) (r : Refusal) → IsErrAnd q (λ y. y ≡ r) → P (Err r) → P q
handed_on P (Ok x) r e h = absurd e
handed_on P (Err y) r e h = subst (λ (x : Refusal). P (Err x)) (sym e) h

-- if the answer is true, the property of that case holds
pub if_true : (b : Bool) (P Q : Type 0) → b ≡ true → MatchBool b P Q → P
if_true true P Q e h = h
if_true false P Q e h = absurd cc

module _ {T : Type 0} (says : T → Bool → Type 0) where
  -- what the test of the condition shows about the value that the seat holds
  pub looked : (s : Sight T) (v : T) (b : Bool) → s.value ≡ Some v → says v b → MatchBool b (WouldWait says s) (NeedNotWait says s)
  looked s v true is said = λ w at. let same : Some v ≡ Some w = sym is ∙ at in let e : v ≡ w = cc in subst (λ u. says u true) e said
  looked s v false is said = (v, is, said)
