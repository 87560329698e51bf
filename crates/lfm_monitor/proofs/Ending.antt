-- What the journal is at the close, when all passes were handed in.
use Rattle.std.proofs.Common.{subst, sym, ◌≡◌, ℕ, suc, ◌<◌, ◌≤◌, List, [], ◌∷◌, ◌++◌, length, Some, refl, ◌∙◌, ap, arith}
use mathlib.Core.Option.{some}
use lib.ListN.{get_elem?}
use Rattle.lfm_model.specs.Journals.{own, total}
use Rattle.lfm_model.specs.Sums.{sum_to}
use Rattle.lfm_model.proofs.Sums.{own_total}
use Rattle.lfm_model.proofs.Numbers.{all_once}
use Rattle.lfm_mutex.specs.calls.Sight.{Sight, sight}
use Rattle.lfm_mutex.specs.declared.mutex.Mutex.{Mutex}
use Rattle.lfm_mutex.specs.Belongs.{OfMutex, limits_of}
use Rattle.lfm_mutex.specs.Close.{AllStand}
use Rattle.lfm_mutex.specs.Reach.{Reached}
use Rattle.lfm_monitor.specs.declared.journaled.Journaled.{Journaled}
use Rattle.lfm_monitor.specs.Journaled.{JournalFollows}
use Rattle.lfm_monitor.specs.declared.pass.Pass.{Pass}
use Rattle.lfm_monitor.specs.Passes.{PassKept, Began, GoesOnTo, journal_of, journal_at}
use Rattle.lfm_monitor.proofs.Growth.{found, own_kept}
use Rattle.lfm_monitor.proofs.Knowing.{some_of, known_left}

total_ext : {P : Type 0} (f g : P → ℕ) (ps : List P) → ((j : ℕ) (p : P) → get_elem? ps j ≡ some p → f p ≡ g p) → total f ps ≡ total g ps
total_ext f g [] h = refl
total_ext f g (p ∷ ps) h = let a = h 0 p refl in let b = total_ext f g ps (λ j q e. h (suc j) q e) in omega arith

module _ {O A R : Type 0} {K : _} {P : Type 0} (seat : P → Sight (Journaled O A R K)) (seen mine : P → ℕ) (kept : (p : P) → PassKept (seat p) (seen p) (mine p)) where
  -- the pass doesn't hold, it belongs to the monitor, and the final value can be reached from what it last left
  pub record Back (opening : O) (seats share : ℕ) (v : Journaled O A R K) (p : P) : Type 0 where
    pub idle : (seat p).depth ≡ 0
    pub leads : (l : Journaled O A R K) → (seat p).last ≡ Some l → Reached JournalFollows (seat p).seats (seat p).number l v
    pub belongs : Began opening seats share (seat p)

  pub ends_as : (opening : O) (seats share : ℕ) (v : Journaled O A R K) (p : P) → Back opening seats share v p → (v.opening.value ≡ opening) × (v.seats ≡ seats) × (v.share ≡ share)
  ends_as opening seats share v p b = let l = some_of (seat p).last (kept p).there in let f = (found (seat p).seats (seat p).number l.0 v (b.leads l.0 l.1)).0 in let o = b.belongs l.0 l.1 in (f.0 ∙ o.0, f.1 ∙ o.1, f.2 ∙ o.2)

  pub own_ends : (opening : O) (seats share : ℕ) (v : Journaled O A R K) (p : P) → Back opening seats share v p → own (seat p).number v.journal.items ≡ own (seat p).number (journal_of (seat p))
  own_ends opening seats share v p b = let l = some_of (seat p).last (kept p).there in let f = (found (seat p).seats (seat p).number l.0 v (b.leads l.0 l.1)).1 in
      own_kept (seat p).number l.0.journal.items v.journal.items f ∙ ap (own (seat p).number) (sym (ap journal_at (known_left (seat p) l.0 ((kept p).free b.idle) l.1)))

  pub order_ends : (opening : O) (seats share : ℕ) (v : Journaled O A R K) (p : P) → Back opening seats share v p → GoesOnTo (seat p) v.journal.items
  order_ends opening seats share v p b = let l = some_of (seat p).last (kept p).there in let f = (found (seat p).seats (seat p).number l.0 v (b.leads l.0 l.1)).1 in
      (f.between, f.none_own, f.grown ∙ ap (λ js. js ++ f.between) (sym (ap journal_at (known_left (seat p) l.0 ((kept p).free b.idle) l.1))))

  pub mine_ends : (opening : O) (seats share : ℕ) (v : Journaled O A R K) (p : P) → Back opening seats share v p → mine p ≡ length (own (seat p).number v.journal.items)
  mine_ends opening seats share v p b = let l = some_of (seat p).last (kept p).there in let f = (found (seat p).seats (seat p).number l.0 v (b.leads l.0 l.1)).1 in
      ((kept p).left b.idle l.0 l.1).mine_is ∙ ap length (sym (own_kept (seat p).number l.0.journal.items v.journal.items f))

  -- The length of the journal is the sum of the passes' own entries: each entry is by exactly one of the passes
  pub whole : (opening : O) (n share : ℕ) (v : Journaled O A R K) (ps : List P) → length ps ≡ n → 0 < n
      → ((k : ℕ) → 0 < k → k ≤ n → (i : ℕ) × (p : P) × (get_elem? ps i ≡ some p) × ((seat p).number ≡ k))
      → ((j : ℕ) (p : P) → get_elem? ps j ≡ some p → Back opening n share v p) → length v.journal.items ≡ total mine ps
  whole opening n share v ps long some_pass each back = let one = each 1 (omega arith) (omega arith) in let sized = (ends_as opening n share v one.1 (back one.0 one.1 one.2)).1 in
      let f : ℕ → ℕ = (λ k. length (own k v.journal.items)) in
      own_total v.seats v.journal.items v.within ∙ (ap (sum_to f) sized ∙ (sym (all_once (λ p. (seat p).number) f n ps long each)
      ∙ sym (total_ext mine (λ p. f (seat p).number) ps (λ j p e. mine_ends opening n share v p (back j p e)))))

module _ {O A R : Type 0} {K : _} where
  -- the same for a pass with its own seat and counts
  abbrev pub Returned : O → ℕ → ℕ → Journaled O A R K → Pass O A R K → Type 0
  Returned opening n share v p = Back (λ (p : Pass O A R K). sight p.seat) (λ p. p.seen) (λ p. p.mine) (λ p. p.kept) opening n share v p

  pub backs : (ps : List (Pass O A R K)) (n : ℕ) (opening : O) (share : ℕ) (v : Journaled O A R K) → AllStand (λ (p : Pass O A R K). sight p.seat) ps n
      → ((j : ℕ) (p : Pass O A R K) → get_elem? ps j ≡ some p → Began opening n share (sight p.seat))
      → ((j : ℕ) (p : Pass O A R K) (l : Journaled O A R K) → get_elem? ps j ≡ some p → (sight p.seat).last ≡ Some l → Reached JournalFollows (sight p.seat).seats (sight p.seat).number l v)
      → (j : ℕ) (p : Pass O A R K) → get_elem? ps j ≡ some p → Returned opening n share v p
  backs ps n opening share v stand of reached j p at = let l = some_of (sight p.seat).last p.kept.there in let s = p.kept.seated l.0 l.1 in let o = (of j p at l.0 l.1).1 in record {
    idle = ((stand (sight p.seat).number s.0 (omega arith)).1 j p at refl).0;
    leads = λ l is. reached j p l at is;
    belongs = of j p at;
  }

  -- a pass of one monitor belongs to each monitor with the same mutex
  pub kept_of : (m n : Mutex (Journaled O A R K)) (opening : O) (share : ℕ) (p : Pass O A R K) → m ≡ n → OfMutex p.seat m × Began opening (limits_of m).seats share (sight p.seat)
      → OfMutex p.seat n × Began opening (limits_of n).seats share (sight p.seat)
  kept_of m n opening share p e h = subst (λ (x : Mutex (Journaled O A R K)). OfMutex p.seat x × Began opening (limits_of x).seats share (sight p.seat)) e h
