-- Walks along the links, and the queue that they produce.
use Rattle.std.proofs.Common.{◌≡◌, ◌+◌, ◌-◌, ◌<◌, ◌≤◌, ℕ, zero, suc, Bool, true, false, cond, List, [], ◌∷◌, ◌++◌, length, drop, reverse, get_or, Option, Some, refl, sym, ◌∙◌, ap, arith, tests}
use Rattle.std.specs.List.{slice_get}
use Rattle.std.proofs.lemmas.List.{reverse-append, drop-drop}
use Rattle.lfm_protocol.specs.Seats.{no_link, link, entry}
use Rattle.lfm_protocol.specs.Queue.{chain, chain_of, is_linked}
use Rattle.lfm_words.specs.Popped.{oldest}
use Rattle.lfm_words.specs.declared.links.Link.{Link}
use Rattle.lfm_words.specs.declared.pop_lists.Record.{Record}

-- a walk that starts at a seat visits its record and continues with the next seat
pub chain_of-seat : (left : ℕ) (links : List Link) (t : ℕ) → 0 < left → 0 < t → t ≤ length links
    → chain_of left links t ≡ record { seat = t; stamp = (get_or links (t - 1) no_link).stamp } ∷ chain_of (left - 1) links (get_or links (t - 1) no_link).next
unfolding entry
chain_of-seat zero links t some above within = absurd (omega (arith, some))
chain_of-seat (suc left) links zero some above within = absurd (omega (arith, above))
chain_of-seat (suc left) links (suc n) some above within =
    let there : is_linked links (suc n) ≡ true = search (tests, arith, within) in
    let same : suc n - 1 ≡ n = omega arith in
    let less : suc left - 1 ≡ left = omega arith in
    rw (there, same, less) refl

length_cond : (b : Bool) (xs : List Record) (n : ℕ) → length xs ≤ n → length (cond b xs []) ≤ n
length_cond true xs n few = few
length_cond false xs n few = omega arith

-- by induction on the number of records that a walk may visit: it visits at most that many
pub length-chain_of : (left : ℕ) (links : List Link) (t : ℕ) → length (chain_of left links t) ≤ left
length-chain_of zero links t = omega arith
length-chain_of (suc left) links t =
    length_cond (is_linked links t) _ (suc left) (let rest : length (chain_of left links (link links t).next) ≤ left = length-chain_of left links (link links t).next in omega (arith, rest))

pub oldest-drop : (i : ℕ) (records : List Record) → oldest (drop i records) ≡ slice_get records i
oldest-drop zero [] = refl
oldest-drop zero (r ∷ rest) = refl
oldest-drop (suc i) [] = refl
oldest-drop (suc i) (r ∷ rest) = oldest-drop i rest

-- the record that a walk visits after i others
pub slice_get-walk : (i counter : ℕ) (records left : List Record) (found : Option Record) → counter ≤ i → i ≤ counter → left ≡ drop counter records → found ≡ oldest left
    → slice_get records i ≡ found
slice_get-walk i counter records left found low high at is =
    let same : counter ≡ i = omega (arith, low, high) in
    sym (is ∙ ap oldest (at ∙ ap (λ n. drop n records) same) ∙ oldest-drop i records)

pub length-chain : (links : List Link) (t : ℕ) → length (chain links t) ≤ length links
length-chain links t = length-chain_of (length links) links t

pub drop-more : (i : ℕ) (records later : List Record) → later ≡ drop i records → drop 1 later ≡ drop (i + 1) records
drop-more i records later at = ap (drop 1) at ∙ drop-drop 1 i records

-- a walked part and a pushed part, newest first, with the popped records, oldest first, between them

abbrev pub joined : List Record → List Record → List Record → List Record
joined walked popped pushed = reverse walked ++ (popped ++ reverse pushed)

-- the records that were gathered newest first, read oldest first
pub reverse-gathered : (walked popped pushed newest : List Record) → reverse newest ≡ popped → reverse (pushed ++ newest ++ walked) ≡ joined walked popped pushed
reverse-gathered walked popped pushed newest same =
    reverse-append (pushed ++ newest) walked ∙ ap (λ xs. reverse walked ++ xs) (reverse-append pushed newest ∙ ap (λ xs. xs ++ reverse pushed) same)

-- a walk that visits a record is not at its end
pub length-some : (records : List Record) (r : Record) → oldest records ≡ Some r → 0 < length records
length-some [] r is = absurd (cc)
length-some (x ∷ rest) r is = omega arith
