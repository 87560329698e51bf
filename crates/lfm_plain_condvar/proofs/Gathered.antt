-- Threads that are found parked one after another, and the range that has them.
use Rattle.std.proofs.Common.{ℕ, List, [], ◌∷◌, ◌++◌, sym, ◌∙◌, ap, arith, append_assoc, append-nil}
use Rattle.lfm_plain_condvar.specs.declared.parkers.parked.ParkedRange.{ParkedRange}
use Rattle.lfm_plain_condvar.specs.Parked.{Gathers, HasAll, Widens}

-- a wider range has them too
wider_has : (r s : ParkedRange) (ks : List ℕ) → Widens r s → HasAll r ks → HasAll s ks
wider_has r s [] w h = tt
wider_has r s (k ∷ ks) w h = let a = w.0 in let b = w.1 in let c = h.0 in let d = h.1 in (omega arith, omega arith, wider_has r s ks w h.2)

has_both : (r : ParkedRange) (ks ls : List ℕ) → HasAll r ks → HasAll r ls → HasAll r (ks ++ ls)
has_both r [] ls h g = g
has_both r (k ∷ ks) ls h g = (h.0, h.1, has_both r ks ls h.2 g)

-- nobody was notified
pub gathers_none : (r : ParkedRange) (before : List ℕ) → Gathers r r before before
gathers_none r before = ((omega arith, omega arith), ([], sym (append-nil before), tt))

-- more were notified
pub gathers_more : (r s t : ParkedRange) (first before after : List ℕ) → Gathers r s first before → Gathers s t before after → Gathers r t first after
gathers_more r s t first before after g h = let a = g.0.0 in let b = g.0.1 in let c = h.0.0 in let d = h.0.1 in (
  (omega arith, omega arith),
  (
    g.1.0 ++ h.1.0,
    h.1.1 ∙ (ap (λ (l : List ℕ). l ++ h.1.0) g.1.1 ∙ append_assoc first g.1.0 h.1.0),
    has_both t g.1.0 h.1.0 (wider_has s t g.1.0 h.0 g.1.2) h.1.2,
  ),
)
