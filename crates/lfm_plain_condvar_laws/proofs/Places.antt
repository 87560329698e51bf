-- Each ticket is in one place. An event gives the next ticket, or moves a waiter from one place to another.
use Rattle.std.proofs.Common.{◌≡◌, ◌⊎◌, ⊎_elim, inl, inr, ℕ, ◌+◌, ◌<◌, ◌≤◌, List, [], ◌∷◌, ◌++◌, refl, sym, ◌∙◌, ap, subst, arith}
use mathlib.Core.Logic.{dite}
use native.Mathlib.Decide.{ℕ_discrete}
use Rattle.lfm_model.proofs.Sums.{one_at, one_other, one_same}
use Rattle.lfm_plain_condvar_laws.specs.Events.{Event, Happens, Run, enlists, finds_none, leaves, returns, wakes}
use Rattle.lfm_plain_condvar_laws.specs.Laws.{TicketsAreInOnePlace}
use Rattle.lfm_plain_condvar_laws.specs.Waits.{Waiter, Waits, everywhere, none_yet, times, waiter}

times_join : (t : ℕ) (xs ys : List Waiter) → times t (xs ++ ys) ≡ times t xs + times t ys
times_join t [] ys = omega arith
times_join t (x ∷ xs) ys = let h = times_join t xs ys in omega arith

record Placed (w : Waits) : Type 0 where
  pub given : (t : ℕ) → 0 < t → t ≤ w.added → everywhere t w ≡ 1
  pub others : (t : ℕ) → (t ≡ 0) ⊎ (w.added < t) → everywhere t w ≡ 0

-- no ticket was given, and none is in more or fewer places than before
moved : (v w : Waits) → w.added ≡ v.added → ((t : ℕ) → everywhere t w ≡ everywhere t v) → Placed v → Placed w
moved v w same e p = record {
  given = λ t low high. e t ∙ p.given t low (omega arith);
  others = λ t o. e t ∙ p.others t (⊎_elim (λ z. inl z) (λ h. inr (omega arith)) o);
}

-- the waits after a seat was added
abbrev longer : ℕ → Waits → Waits
longer s v = record v { added = v.added + 1; listed = v.listed ++ waiter s (v.added + 1) ∷ [] }

with_next : (s t : ℕ) (v : Waits) → everywhere t (longer s v) ≡ everywhere t v + one_at (v.added + 1) t
with_next s t v = let j = times_join t v.listed (waiter s (v.added + 1) ∷ []) in omega arith

given_next : (s : ℕ) (v : Waits) → Placed v → (t : ℕ) → 0 < t → t ≤ v.added + 1 → everywhere t (longer s v) ≡ 1
given_next s v p t low high = let n = with_next s t v in dite (ℕ_discrete (v.added + 1) t)
    (λ e. let one = one_same (v.added + 1) t e in let none = p.others t (inr (omega arith)) in omega arith)
    (λ ne. let none = one_other (v.added + 1) t ne in let one = p.given t low (omega arith) in omega arith)

others_next : (s : ℕ) (v : Waits) → Placed v → (t : ℕ) → (t ≡ 0) ⊎ (v.added + 1 < t) → everywhere t (longer s v) ≡ 0
others_next s v p t o = let n = with_next s t v in ⊎_elim
    (λ z. let none = one_other (v.added + 1) t (λ e. omega arith) in let zero = p.others t (inl z) in omega arith)
    (λ h. let none = one_other (v.added + 1) t (λ e. omega arith) in let zero = p.others t (inr (omega arith)) in omega arith)
    o

enlisted : (s : ℕ) (v : Waits) → Placed v → Placed (longer s v)
enlisted s v p = record { given = given_next s v p; others = others_next s v p }

step : (e : Event) (v w : Waits) → Happens e v w → Placed v → Placed w
step (enlists s) v w h p = subst Placed (sym h) (enlisted s v p)
step wakes v w h p = subst Placed (sym h.3) (moved v (record v { listed = h.1; owed = v.owed ++ h.0 ∷ [] }) refl (λ t. let a = ap (times t) h.2 in let b = times_join t v.owed (h.0 ∷ []) in omega arith) p)
step finds_none v w h p = subst Placed (sym h.1) p
step (leaves s) v w h p = subst Placed (sym h.5)
    (moved v (record v { listed = h.0 ++ h.2; timed_out = v.timed_out ++ h.1 ∷ [] }) refl
    (λ t. let a = ap (times t) h.4 in let b = times_join t h.0 (h.1 ∷ h.2) in let c = times_join t h.0 h.2 in let d = times_join t v.timed_out (h.1 ∷ []) in omega arith) p)
step (returns s) v w h p = subst Placed (sym h.5)
    (moved v (record v { owed = h.0 ++ h.2; woken = v.woken ++ h.1 ∷ [] }) refl
    (λ t. let a = ap (times t) h.4 in let b = times_join t h.0 (h.1 ∷ h.2) in let c = times_join t h.0 h.2 in let d = times_join t v.woken (h.1 ∷ []) in omega arith) p)

placed : (es : List Event) (v w : Waits) → Run es v w → Placed v → Placed w
placed [] v w r p = subst Placed r p
placed (e ∷ es) v w r p = placed es r.0 w r.2 (step e v r.0 r.1 p)

at_first : Placed none_yet
at_first = record { given = λ t low high. absurd (omega arith); others = λ t o. omega arith }

pub tickets_are_in_one_place : TicketsAreInOnePlace
tickets_are_in_one_place = record {
  given = λ es w r. (placed es none_yet w r at_first).given;
  others = λ es w r. (placed es none_yet w r at_first).others;
}
