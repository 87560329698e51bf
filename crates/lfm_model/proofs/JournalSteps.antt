-- One more entry at the end of a journal.
use Rattle.std.proofs.Common.{◌≡◌, ℕ, ◌+◌, ◌<◌, ◌≤◌, ◌==◌, Bool, true, false, if◌then◌else◌, List, [], ◌∷◌, ◌++◌, length, Option, None, refl, ◌∙◌, ap, subst, arith, length-append}
use mathlib.Core.Logic.{dite}
use native.Mathlib.Decide.{ℕ_discrete}
use Rattle.lfm_model.specs.declared.answers.How.{How}
use Rattle.lfm_model.specs.declared.answers.How.TheVariants.{Free, Queued}
use Rattle.lfm_model.specs.declared.journals.What.TheVariants.{Took}
use Rattle.lfm_model.specs.declared.journals.Entry.{Entry}
use Rattle.lfm_model.specs.Journals.{taker_at, queued_at, May, MayTake, taker_from, queued_from, LawfulJournal, own, entry, Within}
use Rattle.lfm_model.proofs.JournalLists.{taker-append, queued-append, lawful-append, own-append}
use Rattle.lfm_model.proofs.Sums.{one_at, one_other, one_most, within_append}

module _ {A : Type 0} (es : List (Entry A)) (e : Entry A) where
  pub lawful_more : LawfulJournal es → May (taker_from None es) (queued_from 0 es) e.seat e.what → LawfulJournal (es ++ e ∷ [])
  lawful_more l m = lawful-append None 0 es (e ∷ []) l (m, tt)

  pub taker_more : taker_from None (es ++ e ∷ []) ≡ taker_at (taker_from None es) e.seat e.what
  taker_more = taker-append None es (e ∷ [])

  pub queued_more : queued_from 0 (es ++ e ∷ []) ≡ queued_at (queued_from 0 es) e.what
  queued_more = queued-append 0 es (e ∷ [])

  pub within_more : (n : ℕ) → Within n es → 0 < e.seat → e.seat ≤ n → Within n (es ++ e ∷ [])
  within_more n w p q = within_append n es (e ∷ []) w (p, (q, tt))

  own_one : (b : Bool) → length (if b then e ∷ [] else []) ≡ (if b then 1 else 0)
  own_one true = refl
  own_one false = refl

  pub own_more_length : (s : ℕ) → length (own s (es ++ e ∷ [])) ≡ length (own s es) + one_at e.seat s
  own_more_length s = ap length (own-append s es (e ∷ [])) ∙ length-append (own s es) (own s (e ∷ [])) ∙ ap (λ n. length (own s es) + n) (own_one (e.seat == s))

  pub shares_more : (share : ℕ) → ((s : ℕ) → length (own s es) ≤ share) → length (own e.seat es) < share → (s : ℕ) → length (own s (es ++ e ∷ [])) ≤ share
  shares_more share h lt s = let l = own_more_length s in dite (ℕ_discrete e.seat s)
      (λ is. let m = one_most e.seat s in let lt' : length (own s es) < share = subst (λ (k : ℕ). length (own k es) < share) is lt in omega arith)
      (λ ne. let z = one_other e.seat s ne in let a = h s in omega arith)

pub may_take : (A : Type 0) (t : Option ℕ) (k s : ℕ) (h : How) → MayTake k h → May {A = A} t k s (Took h)
may_take A t k s Free m = tt
may_take A t k s (Queued x) m = m

pub lawful_take : {A : Type 0} (es : List (Entry A)) (s : ℕ) (h : How) → LawfulJournal es → MayTake (queued_from 0 es) h → LawfulJournal (es ++ entry s (Took h) ∷ [])
lawful_take {A = A} es s h l m = lawful_more es (entry s (Took h)) l (may_take A (taker_from None es) (queued_from 0 es) s h m)
