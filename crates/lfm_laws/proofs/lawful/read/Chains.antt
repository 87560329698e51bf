-- The records linked from a seat: if in a part of the queue the link of each record leads to the record before it, then the
-- chain from the newest record is that part, newest first.
use Rattle.std.proofs.Common.{◌≡◌, ℕ, zero, suc, true, ◌+◌, ◌-◌, ◌<◌, ◌≤◌, List, [], ◌∷◌, length, reverse, refl, ap, ◌∙◌, arith}
use Rattle.std.proofs.lemmas.Bool.{and_from, lt-ltb, eq-eqb, ne_eqb}
use Rattle.std.proofs.lemmas.List.{reverse-append}
use Rattle.lfm_words.specs.declared.links.Link.{Link}
use Rattle.lfm_laws.specs.steady.Numbered.{records}
use Rattle.lfm_protocol.specs.Queue.{is_linked, chain_of}
use Rattle.lfm_protocol.specs.Seats.{link}
use Rattle.lfm_laws.specs.steady.Steady.{before, newest}
use Rattle.lfm_laws.proofs.steady.frames.Histories.{records_snoc}

-- the record with this stamp belongs to a seat, whose link leads to the record before it in a part that begins after `first`
pub record Leads (links : List Link) (pushed_at : ℕ → ℕ) (first stamp : ℕ) : Type 0 where
  pub above : 0 < pushed_at stamp
  pub within : pushed_at stamp ≤ length links
  pub link_is : link links (pushed_at stamp) ≡ record { stamp = stamp; next = before pushed_at first stamp }

-- the chain from 0 is empty
chain_none : (most : ℕ) (links : List Link) → chain_of most links 0 ≡ []
chain_none zero links = refl
chain_none (suc most) links = refl

-- the chain from a seat is its own record and then the chain from the seat that its link names
chain_one : (most : ℕ) (links : List Link) (t : ℕ) (l : Link) → 0 < t → t ≤ length links → link links t ≡ l
    → chain_of (suc most) links t ≡ record { seat = t; stamp = l.stamp } ∷ chain_of most links l.next
chain_one most links t l above within here =
    let linked : is_linked links t ≡ true = and_from _ _ (lt-ltb 0 t above) (lt-ltb t (length links + 1) (omega (arith, within))) in
    rw (linked, here) refl

-- for n + 1 records, the newest one and the one before it
newest_more : (first n : ℕ) (pushed_at : ℕ → ℕ) → newest first (first + suc n) pushed_at ≡ pushed_at (first + suc n)
newest_more first n pushed_at = rw (ne_eqb first (first + suc n) (λ e. absurd (omega (arith, e)))) refl

before_newest : (first n : ℕ) (pushed_at : ℕ → ℕ) → before pushed_at first (first + suc n) ≡ newest first (first + n) pushed_at
before_newest first zero pushed_at =
    rw (eq-eqb (first + 1) (first + 1) refl, eq-eqb first (first + 0) (omega arith)) refl
before_newest first (suc n) pushed_at =
    let less : first + suc (suc n) - 1 ≡ first + suc n = omega arith in
    rw (ne_eqb (first + suc (suc n)) (first + 1) (λ e. absurd (omega (arith, e))), ne_eqb first (first + suc n) (λ e. absurd (omega (arith, e))), less) refl

-- the reversed records with one more record in front
reverse_more : (pushed_at : ℕ → ℕ) (first n : ℕ) → reverse (records pushed_at first (suc n)) ≡ record { seat = pushed_at (first + suc n); stamp = first + suc n } ∷ reverse (records pushed_at first n)
reverse_more pushed_at first n =
    let more : suc n ≡ n + 1 = omega arith in
    let last : first + n + 1 ≡ first + suc n = omega arith in
    let snoc = rw last at (records_snoc pushed_at first n) in
    ap (λ k. reverse (records pushed_at first k)) more ∙ ap reverse snoc ∙ reverse-append (records pushed_at first n) (record { seat = pushed_at (first + suc n); stamp = first + suc n } ∷ [])

pub chain_leads : (most n : ℕ) (links : List Link) (pushed_at : ℕ → ℕ) (first : ℕ) → n ≤ most
    → ((stamp : ℕ) → first < stamp → stamp ≤ first + n → Leads links pushed_at first stamp)
    → chain_of most links (newest first (first + n) pushed_at) ≡ reverse (records pushed_at first n)
chain_leads most zero links pushed_at first enough leads = rw (eq-eqb first (first + 0) (omega arith)) (chain_none most links)
chain_leads zero (suc n) links pushed_at first enough leads = absurd (omega arith)
chain_leads (suc most) (suc n) links pushed_at first enough leads =
    let here = leads (first + suc n) (omega arith) (omega arith) in
    let one = chain_one most links (pushed_at (first + suc n)) _ here.above here.within here.link_is in
    let rest = chain_leads most n links pushed_at first (omega arith) (λ stamp above within. leads stamp above (omega arith)) in
    rw (newest_more first n pushed_at, reverse_more pushed_at first n)
    (one ∙ ap (λ rs. record { seat = pushed_at (first + suc n); stamp = first + suc n } ∷ rs) (ap (chain_of most links) (before_newest first n pushed_at) ∙ rest))
