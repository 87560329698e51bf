-- The seat after a section: it has given up again the hold by which it locked.
use Rattle.std.proofs.Common.{◌≡◌, ℕ, ◌+◌, ◌<◌, ◌∙◌, Ok, false, sym, ap, arith}
use Rattle.lfm_model.specs.declared.answers.How.{How}
use Rattle.lfm_model.specs.declared.answers.Locked.{Locked}
use Rattle.lfm_model.specs.declared.answers.Unlocked.{Unlocked}
use Rattle.lfm_mutex.specs.calls.Sections.{StandsAs, with_value}
use Rattle.lfm_mutex.specs.calls.Sight.{Sight, Deepens, Gains, LeavesOff, Locks, LocksWaiting, Unlocks}

module _ {T : Type 0} (follows : ℕ → T → T → Type 0) (fits : T → ℕ → Type 0) (budget : ℕ) (s held t : Sight T) (x : T) where
  gained_and_left : (how : How) → Gains follows fits budget how s held → LeavesOff (with_value held x) t × (t.takes ≡ held.takes) × (t.asleep ≡ false) → StandsAs s t
  gained_and_left how g e = (e.0.2 ∙ g.3, e.0.3 ∙ sym g.1, e.2 ∙ sym g.0)

  after_gain : (how : How) (u : Unlocked) → Gains follows fits budget how s held → Unlocks (with_value held x) t (Ok u) → StandsAs s t
  after_gain how (Unlocked.Still d) g e = let a = g.4 in let b = e.2 in let c = e.1 in absurd (omega arith)
  after_gain how Unlocked.Free g e = gained_and_left how g e
  after_gain how (Unlocked.Granted n) g e = gained_and_left how g e
  after_gain how Unlocked.Posted g e = gained_and_left how g e
  after_gain how Unlocked.TakenOver g e = gained_and_left how g e

  deepened_and_left : (d : ℕ) → Deepens s held d → LeavesOff (with_value held x) t → StandsAs s t
  deepened_and_left d p e = let a = p.1 in let b = p.3 in let c : held.depth ≡ d = ap (λ m. m.depth) p.4 in let f : held.depth ≡ 1 = e.1 in absurd (omega arith)

  after_deepening : (d : ℕ) (u : Unlocked) → Deepens s held d → Unlocks (with_value held x) t (Ok u) → StandsAs s t
  after_deepening d (Unlocked.Still k) p e = (
    ap (λ m. m.number) e.3 ∙ ap (λ m. m.number) p.4,
    (let a = p.3 in let b : held.depth ≡ d = ap (λ m. m.depth) p.4 in let c : held.depth ≡ k + 1 = e.2 in let f : t.depth ≡ k = ap (λ m. m.depth) e.3 in omega arith),
    ap (λ m. m.asleep) e.3 ∙ ap (λ m. m.asleep) p.4,
  )
  after_deepening d Unlocked.Free p e = deepened_and_left d p e.0
  after_deepening d (Unlocked.Granted n) p e = deepened_and_left d p e.0
  after_deepening d Unlocked.Posted p e = deepened_and_left d p e.0
  after_deepening d Unlocked.TakenOver p e = deepened_and_left d p e.0

  -- after lock and unlock
  pub stands_after_lock : (locked : Locked) (u : Unlocked) → LocksWaiting follows fits budget s held (Ok locked) → Unlocks (with_value held x) t (Ok u) → StandsAs s t
  stands_after_lock (Locked.Held how) u l e = after_gain how u l e
  stands_after_lock (Locked.Again d) u l e = after_deepening d u l e

  -- after try_lock and unlock
  pub stands_after_try : (locked : Locked) (u : Unlocked) → Locks follows fits budget s held (Ok locked) → Unlocks (with_value held x) t (Ok u) → StandsAs s t
  stands_after_try (Locked.Held how) u l e = after_gain how u l e
  stands_after_try (Locked.Again d) u l e = after_deepening d u l e

module _ {T : Type 0} (follows : ℕ → T → T → Type 0) (fits : T → ℕ → Type 0) (budget : ℕ) (s held : Sight T) where
  deepened_holds : (d : ℕ) → Deepens s held d → 0 < held.depth
  deepened_holds d p = let a = p.3 in let b : held.depth ≡ d = ap (λ m. m.depth) p.4 in omega arith

  gained_holds : (how : How) → Gains follows fits budget how s held → 0 < held.depth
  gained_holds how g = let a = g.4 in omega arith

  -- a seat that has locked holds
  pub holds_after_lock : (locked : Locked) → LocksWaiting follows fits budget s held (Ok locked) → 0 < held.depth
  holds_after_lock (Locked.Held how) l = gained_holds how l
  holds_after_lock (Locked.Again d) l = deepened_holds d l

  pub holds_after_try : (locked : Locked) → Locks follows fits budget s held (Ok locked) → 0 < held.depth
  holds_after_try (Locked.Held how) l = gained_holds how l
  holds_after_try (Locked.Again d) l = deepened_holds d l
