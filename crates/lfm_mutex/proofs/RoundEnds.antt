-- How rounds change a seat.
use Rattle.std.specs.Prelude.{⊤}
use Rattle.std.proofs.Common.{◌≡◌, Bool, true, false, ℕ, suc, ◌+◌, ◌<◌, ◌∙◌, Result, Ok, Err, IfOk, is_err, true≢false, inr, refl, sym, subst, arith}
use Rattle.std.specs.Fn.{Shared}
use Rattle.lfm_model.specs.declared.refusals.Refusal.{Refusal}
use Rattle.lfm_mutex.specs.declared.mutex.Mutex.{Mutex}
use Rattle.lfm_mutex.specs.declared.seat.Seat.{Seat}
use Rattle.lfm_mutex.specs.Belongs.{OfMutex}
use Rattle.lfm_mutex.specs.Rounds.{HasRounded, KeepsRound, RoundGives, RoundsLead}
use Rattle.lfm_mutex.specs.calls.Sections.{StandsAs}
use Rattle.lfm_mutex.specs.calls.Sight.{sight}
use denote.Ref.{MutBor}

-- if P implies Q, then P of the value of an Ok implies Q of it
pub if_ok : {X E : Type 0} (P Q : X → Type 0) (r : Result X E) → ((x : X) → P x → Q x) → IfOk r P → IfOk r Q
if_ok P Q (Ok x) f p = f x p
if_ok P Q (Err e) f p = tt

-- the refusal of a result that is an Err; and that a result that is no Err is Ok
pub the_refusal : (y : Result ⊤ Refusal) (b : Bool) → b ≡ is_err y → b ≡ true → (r : Refusal) × (y ≡ Err r)
the_refusal (Ok u) b e t = absurd (true≢false (sym t ∙ e))
the_refusal (Err r) b e t = (r, refl)

pub no_refusal : (y : Result ⊤ Refusal) (b : Bool) → b ≡ is_err y → b ≡ false → y ≡ Ok tt
no_refusal (Ok u) b e t = refl
no_refusal (Err r) b e t = absurd (true≢false (sym e ∙ t))

module _ {F T : Type 0} (g : Shared F (ℕ × (MutBor (Seat T) × Unit {0})) (Result ⊤ Refusal × (MutBor (Seat T) × Unit {0}))) (f : F) (rounds : ℕ) (mutex : Mutex T) (keeps : KeepsRound g f rounds mutex) (first s t : Seat T)
    (i : ℕ) (y : Result ⊤ Refusal) (below : i < rounds) (belongs : OfMutex s mutex) (stands : StandsAs (sight first) (sight s)) (lead : RoundsLead g f i first s) (made : RoundGives g f i s y t) where
  kept : OfMutex t mutex × StandsAs (sight first) (sight t)
  kept = let k = keeps i made.0 made.1 y below (subst (λ z. OfMutex z mutex) (sym made.2) belongs) made.4 in
      let here : StandsAs (sight s) (sight t) = subst (λ z. StandsAs (sight z) (sight t)) made.2 (subst (λ z. StandsAs (sight made.0.now) (sight z)) made.3 k.1) in
      (subst (λ z. OfMutex z mutex) made.3 k.0, (here.0 ∙ stands.0, here.1 ∙ stands.1, here.2 ∙ stands.2))

  -- a refused round is the last one
  pub ends : (r : Refusal) → y ≡ Err r → HasRounded g f rounds mutex first t
  ends r is = (kept.0, kept.1, inr (i, s, r, below, lead, subst (λ z. RoundGives g f i s z t) is made))

  -- a round that was not refused is one more round
  pub goes_on : y ≡ Ok tt → OfMutex t mutex × StandsAs (sight first) (sight t) × RoundsLead g f (i + 1) first t
  goes_on is = let one : suc i ≡ i + 1 = omega arith in
      (kept.0, kept.1, subst (λ n. RoundsLead g f n first t) one (s, lead, subst (λ z. RoundGives g f i s z t) is made))
