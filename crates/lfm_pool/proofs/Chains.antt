-- Chains of records in link words: what becomes of them if words change, or if a record is added or taken out.
use Rattle.std.proofs.Common.{◌≡◌, ◌⊎◌, ℕ, zero, suc, ◌-◌, List, [], ◌∷◌, drop, ◌∙◌, refl, inl, inr}
use Rattle.std.specs.Prelude.{slice_index}
use Rattle.lfm_words.specs.declared.pop_lists.Record.{Record}
use Rattle.lfm_pool.specs.Chain.{HasRecord, IsChain, first_seat}
use Rattle.lfm_pool.specs.Layout.{link_at}

-- the link words of its seats are the same in these words as in those
pub chain_on : (mutexes : ℕ) (ws xs : List ℕ) (l : List Record) → ((t : ℕ) → HasRecord t l → slice_index xs (link_at mutexes (t - 1)) ≡ slice_index ws (link_at mutexes (t - 1)))
    → IsChain mutexes ws l → IsChain mutexes xs l
chain_on mutexes ws xs [] same chain = tt
chain_on mutexes ws xs (r ∷ rest) same chain =
    (same r.seat (inl refl) ∙ chain.0, chain_on mutexes ws xs rest (λ t has. same t (inr has)) chain.1)

chain_rest : (mutexes : ℕ) (ws : List ℕ) (l : List Record) → IsChain mutexes ws l → IsChain mutexes ws (drop 1 l)
chain_rest mutexes ws [] chain = tt
chain_rest mutexes ws (r ∷ rest) chain = chain.1

-- what is left of a list whose records from the place d on are a chain, after its first record is taken out
pub chain_less : (mutexes : ℕ) (ws : List ℕ) (d : ℕ) (l : List Record) → IsChain mutexes ws (drop d l) → IsChain mutexes ws (drop d (drop 1 l))
chain_less mutexes ws zero l chain = chain_rest mutexes ws l chain
chain_less mutexes ws (suc d) [] chain = tt
chain_less mutexes ws (suc d) (r ∷ []) chain = tt
chain_less mutexes ws (suc d) (r ∷ x ∷ rest) chain = chain_less mutexes ws d (x ∷ rest) chain

pub has_dropped : (t d : ℕ) (l : List Record) → HasRecord t (drop d l) → HasRecord t l
has_dropped t zero l has = has
has_dropped t (suc d) [] has = absurd has
has_dropped t (suc d) (r ∷ rest) has = inr (has_dropped t d rest has)

pub first_or_rest : (t : ℕ) (l : List Record) → HasRecord t l → (first_seat l ≡ t) ⊎ HasRecord t (drop 1 l)
first_or_rest t [] has = absurd has
first_or_rest t (r ∷ rest) has = has
