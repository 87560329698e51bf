-- If no seat holds, sleeps or is in a call, the count is 0, nothing is posted and no seat is queued.
use Rattle.std.proofs.Common.{◌≡◌, ⊎_elim, inl, inr, ℕ, List, [], ◌∷◌, length, eq-eqb, refl, sym, ◌∙◌, arith}
use Rattle.std.proofs.lemmas.Bool.{cases_eq}
use Rattle.lfm_protocol.specs.declared.points.Point.TheVariants.{Rest, Asleep}
use Rattle.lfm_protocol.specs.Core.{Core}
use Rattle.lfm_protocol.specs.Seats.{seat}
use Rattle.lfm_laws.specs.laws.Laws.{IsHeld, IsGranted}
use Rattle.lfm_laws.specs.steady.Ghost.{Ghost}
use Rattle.lfm_laws.specs.steady.Steady.{Fits, Steady, cleared}
use Rattle.lfm_laws.proofs.lawful.states.StateLaws.{quiescent_states_rest}
use Rattle.lfm_mutex.specs.Close.{IsFree}

empty : {A : Type 0} (l : List A) → length l ≡ 0 → l ≡ []
empty [] e = refl
empty (x ∷ xs) e = absurd (omega (arith, e))

held_not : (c : Core) → ((t : ℕ) → ((seat c.seats t).point ≡ Rest) × ((seat c.seats t).depth ≡ 0)) → IsHeld c → ⊥
held_not c rests h = let flat = (rests h.owner).1 in let deep = h.depth in omega (arith, flat, deep)

granted_not : (c : Core) → ((t : ℕ) → ((seat c.seats t).point ≡ Rest) × ((seat c.seats t).depth ≡ 0)) → IsGranted c → ⊥
granted_not c rests h = let f : Rest ≡ Asleep h.since = sym (rests h.sleeper).0 ∙ h.sleeps in absurd (cc)

pub free_core : (c : Core) (g : Ghost) → Fits c g → ((t : ℕ) → ((seat c.seats t).point ≡ Rest) × ((seat c.seats t).depth ≡ 0)) → IsFree c
free_core c g fits rests =
    let steady : Steady c = record { ghost_state = g; fits = fits } in
    let quiet = quiescent_states_rest c steady (λ t. rw (rests t).0 refl) in
    let none : c.count ≡ 0 = elim (cases_eq c.count 0) [
      | inl z ↦ z
      | inr n ↦ absurd (⊎_elim (held_not c rests) (granted_not c rests) (quiet.1 (omega (arith, n))))
    ]
    in
    let balance = fits.words.count in let parts = fits.words.parts in
    let all : cleared c g ≡ g.pushed = omega (arith, none, balance, parts) in
    record {
      count = none;
      handoff = quiet.0;
      pushed = fits.words.head ∙ (rw (eq-eqb (cleared c g) g.pushed all) refl);
      popped = empty c.popped (omega (arith, none, balance, parts));
    }
