-- Which steps a call makes that is refused as Busy.
use Rattle.std.proofs.Common.{◌≡◌, ◌≢◌, ℕ, ◌+◌, ◌-◌, Bool, true, false, Option, nat_eq, refl, sym, ◌∙◌, inl, inr, if◌then◌else◌, List, [], ◌∷◌, subst}
use Rattle.lfm_model.specs.declared.answers.How.{How}
use Rattle.lfm_words.specs.declared.pop_lists.Record.{Record}
use Rattle.lfm_protocol.specs.declared.points.Entrant.{Entrant}
use Rattle.lfm_protocol.specs.declared.points.Point.{Point}
use Rattle.lfm_protocol.specs.declared.points.Point.TheVariants.{Rest, TryCountExchange, TryOwnerLoad, TryHandoffLoad, TryHandoffExchange, TryCountAdd, EnterOwnerStore}
use Rattle.lfm_protocol.specs.declared.seats.SeatState.{SeatState}
use Rattle.lfm_protocol.specs.After.{same_handoff, busy}
use Rattle.lfm_protocol.specs.Begin.{goes_on}
use Rattle.lfm_laws.specs.table.Words.{handoff_of}
use Rattle.lfm_mutex.specs.calls.Runs.{end_of, trail_of}
use Rattle.lfm_table.specs.Rule.{seen}
use Rattle.lfm_model.specs.declared.refusals.Refusal.{Refusal}
use Rattle.lfm_model.specs.declared.answers.Locked.{Locked}
use Rattle.lfm_protocol.specs.After.{deepens}
use Rattle.lfm_mutex.proofs.runs.StepResults.{not_s, is_s}
use Rattle.lfm_mutex.specs.calls.Sight.{BusySeen}
use Rattle.lfm_protocol.specs.declared.answers.Answer.{Answer}
use Rattle.lfm_protocol.specs.declared.answers.Turn.{Turn}
use Rattle.lfm_protocol.specs.declared.answers.Turn.TheVariants.{Open, Ended, Refused}
use Rattle.lfm_protocol.specs.declared.answers.Why.{Why}
use Rattle.lfm_table.proofs.tables.StepFacts.{made_of}

abbrev Busy : Turn
Busy = Refused (Why.By Refusal.Busy)

no_open : Open ≡ Busy → ⊥
no_open e = cc

no_answer : (answer : Answer) → Ended answer ≡ Busy → ⊥
no_answer answer e = cc

no_idle : Refused Why.Idle ≡ Busy → ⊥
no_idle e = cc

pub idle_runs : (s d t ps : ℕ) (finds : List (ℕ × Option Record)) → (end_of s (record { seat = made_of d t ps Rest; turn = Refused Why.Idle }) finds).turn ≡ Refused Why.Idle
idle_runs s d t ps [] = refl
idle_runs s d t ps (f ∷ finds) = idle_runs s d t ps finds

module _ (s d t ps : ℕ) where
  enters : (finds : List (ℕ × Option Record)) → (end_of s (record { seat = made_of d t ps (EnterOwnerStore Entrant.Trier How.Free); turn = Open }) finds).turn ≡ Busy → ⊥
  enters [] e = no_open e
  enters (f ∷ []) e = no_answer _ e
  enters (f ∷ g ∷ finds) e = no_idle (sym (idle_runs s 1 t ps finds) ∙ e)

  counts : (finds : List (ℕ × Option Record)) → (end_of s (record { seat = made_of d t ps TryCountAdd; turn = Open }) finds).turn ≡ Busy → ⊥
  counts [] e = no_open e
  counts (f ∷ finds) e = enters finds e

  path4 : (n m h k : ℕ) → n ≢ 0 → m ≢ s → (handoff_of h).seat ≢ 0 → (b : Bool) → same_handoff (handoff_of k) (handoff_of h) ≡ b → (finds : List (ℕ × Option Record))
      → (end_of s (if b then goes_on (made_of d t ps (TryHandoffExchange (handoff_of h))) TryCountAdd else busy (made_of d t ps (TryHandoffExchange (handoff_of h)))) finds).turn ≡ Busy
      → BusySeen s (seen TryCountExchange n ∷ seen TryOwnerLoad m ∷ seen TryHandoffLoad h ∷ seen (TryHandoffExchange (handoff_of h)) k
      ∷ trail_of s (if b then goes_on (made_of d t ps (TryHandoffExchange (handoff_of h))) TryCountAdd else busy (made_of d t ps (TryHandoffExchange (handoff_of h)))).seat finds)
  path4 n m h k some other posted true is finds e = absurd (counts finds e)
  path4 n m h k some other posted false is [] e = (n, m, h, some, other, inr (k, posted, is, refl))
  path4 n m h k some other posted false is (f ∷ finds) e = absurd (no_idle (sym (idle_runs s d (t - 1) ps finds) ∙ e))

  path3 : (n m h : ℕ) → n ≢ 0 → m ≢ s → (b : Bool) → nat_eq (handoff_of h).seat 0 ≡ b → (finds : List (ℕ × Option Record))
      → (end_of s (if b then busy (made_of d t ps TryHandoffLoad) else goes_on (made_of d t ps TryHandoffLoad) (TryHandoffExchange (handoff_of h))) finds).turn ≡ Busy
      → BusySeen s (seen TryCountExchange n ∷ seen TryOwnerLoad m ∷ seen TryHandoffLoad h
      ∷ trail_of s (if b then busy (made_of d t ps TryHandoffLoad) else goes_on (made_of d t ps TryHandoffLoad) (TryHandoffExchange (handoff_of h))).seat finds)
  path3 n m h some other true is [] e = (n, m, h, some, other, inl (is_s (handoff_of h).seat 0 is, refl))
  path3 n m h some other true is (f ∷ finds) e = absurd (no_idle (sym (idle_runs s d (t - 1) ps finds) ∙ e))
  path3 n m h some other false is [] e = absurd (no_open e)
  path3 n m h some other false is (f ∷ finds) e = path4 n m h f.0 some other (not_s (handoff_of h).seat 0 is) (same_handoff (handoff_of f.0) (handoff_of h)) refl finds e

  path2 : (n m : ℕ) → n ≢ 0 → (b : Bool) → nat_eq m s ≡ b → (finds : List (ℕ × Option Record))
      → (end_of s (if b then record { seat = deepens (made_of d t ps TryOwnerLoad); turn = Ended (Answer.Locked (Locked.Again (d + 1))) } else goes_on (made_of d t ps TryOwnerLoad) TryHandoffLoad) finds).turn ≡ Busy
      → BusySeen s (seen TryCountExchange n ∷ seen TryOwnerLoad m
      ∷ trail_of s (if b then record { seat = deepens (made_of d t ps TryOwnerLoad); turn = Ended (Answer.Locked (Locked.Again (d + 1))) } else goes_on (made_of d t ps TryOwnerLoad) TryHandoffLoad).seat finds)
  path2 n m some true is [] e = absurd (no_answer _ e)
  path2 n m some true is (f ∷ finds) e = absurd (no_idle (sym (idle_runs s (d + 1) t ps finds) ∙ e))
  path2 n m some false is [] e = absurd (no_open e)
  path2 n m some false is (f ∷ finds) e = path3 n m f.0 some (not_s m s is) (nat_eq (handoff_of f.0).seat 0) refl finds e

  path1 : (n : ℕ) (b : Bool) → nat_eq n 0 ≡ b → (finds : List (ℕ × Option Record))
      → (end_of s (goes_on (made_of d t ps TryCountExchange) (if b then EnterOwnerStore Entrant.Trier How.Free else TryOwnerLoad)) finds).turn ≡ Busy
      → BusySeen s (seen TryCountExchange n ∷ trail_of s (goes_on (made_of d t ps TryCountExchange) (if b then EnterOwnerStore Entrant.Trier How.Free else TryOwnerLoad)).seat finds)
  path1 n true is finds e = absurd (enters finds e)
  path1 n false is [] e = absurd (no_open e)
  path1 n false is (f ∷ finds) e = path2 n f.0 (not_s n 0 is) (nat_eq f.0 s) refl finds e

  path0 : (finds : List (ℕ × Option Record)) → (end_of s (record { seat = made_of d t ps TryCountExchange; turn = Open }) finds).turn ≡ Busy → BusySeen s (trail_of s (made_of d t ps TryCountExchange) finds)
  path0 [] e = absurd (no_open e)
  path0 (f ∷ finds) e = path1 f.0 (nat_eq f.0 0) refl finds e

path_at : (s d t ps : ℕ) (q : Point) → q ≡ TryCountExchange → (finds : List (ℕ × Option Record)) → (end_of s (record { seat = made_of d t ps q; turn = Open }) finds).turn ≡ Busy → BusySeen s (trail_of s (made_of d t ps q) finds)
path_at s d t ps q at finds = subst (λ (x : Point). (end_of s (record { seat = made_of d t ps x; turn = Open }) finds).turn ≡ Busy → BusySeen s (trail_of s (made_of d t ps x) finds)) (sym at) (path0 s d t ps finds)

pub busy_path : (s : ℕ) (x : SeatState) (finds : List (ℕ × Option Record)) → x.point ≡ TryCountExchange → (end_of s (record { seat = x; turn = Open }) finds).turn ≡ Refused (Why.By Refusal.Busy) → BusySeen s (trail_of s x finds)
busy_path s x finds at e = path_at s x.depth x.takes x.posts x.point at finds e
