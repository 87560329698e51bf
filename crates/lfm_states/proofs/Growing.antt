-- A list of bytes that grows at its end.
use Rattle.std.proofs.Common.{◌≡◌, ◌++◌, ◌∙◌, ℕ, List, [], sym, ap, append_assoc, append-nil}

pub not_grown : (a : List ℕ) → (more : List ℕ) × a ≡ a ++ more
not_grown a = ([], sym (append-nil a))

pub grown_then : (a b c : List ℕ) → ((more : List ℕ) × b ≡ a ++ more) → ((more : List ℕ) × c ≡ b ++ more) → (more : List ℕ) × c ≡ a ++ more
grown_then a b c p q = (p.0 ++ q.0, q.1 ∙ ap (λ l. l ++ q.0) p.1 ∙ append_assoc a p.0 q.0)
