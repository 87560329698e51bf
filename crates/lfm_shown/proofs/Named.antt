-- The numbers of texts stay theirs while further texts are added.
use Rattle.std.proofs.Common.{◌≡◌, ◌<◌, ◌≤◌, ◌+◌, ℕ, List, [], ◌∷◌, ◌++◌, length, take, get_or, map, slice_get, min, nat_eq, true, Option, Some, None, refl, sym, ◌∙◌, ap, subst, add-one, arith}
use Rattle.std.proofs.lemmas.List.{length-take, get_or-take}
use Rattle.std.proofs.lemmas.Option.{slice_get_within, slice_get_read, get_or_from_slice_get, slice_get-map}
use Rattle.std.specs.Cmp.Lexicographic.{pointwise, bytes_decides}
use Rattle.std.specs.Option.{option_map}
use Rattle.lfm_core.specs.text.Trace.{state_text}
use Rattle.lfm_protocol.specs.Core.{Core}
use Rattle.lfm_shown.specs.Graphs.{Name, texts_of_seats}
use Rattle.lfm_shown.specs.Texts.{link_text, seat_text}

-- a list that begins with another one is as long at least
longer : (old new : List (List ℕ)) → take (length old) new ≡ old → length old ≤ length new
longer old new kept = let same : min (length old) (length new) ≡ length old = sym (length-take (length old) new) ∙ ap length kept in omega (arith, same)

-- a text keeps its number
pub kept_at : (old new : List (List ℕ)) (n : ℕ) (t : List ℕ) → take (length old) new ≡ old → slice_get old n ≡ Some t → slice_get new n ≡ Some t
kept_at old new n t kept at =
    let within : n < length old = slice_get_within old n t at in
    let read : get_or new n t ≡ t =
    sym (get_or-take (length old) new n t within) ∙ ap (λ l. get_or l n t) kept ∙ get_or_from_slice_get old n t t at in
    slice_get_read new (length new) n t refl (omega (arith, within, longer old new kept)) (sym read)

abbrev head_or : Option (List ℕ) → List (Option (List ℕ)) → Option (List ℕ)
head_or d [] = d
head_or d (x ∷ xs) = x

abbrev tail : List (Option (List ℕ)) → List (Option (List ℕ))
tail [] = []
tail (x ∷ xs) = xs

-- some numbers are those of their texts, and one more is
pub named_then : (old new : List (List ℕ)) → take (length old) new ≡ old → (ns : List ℕ) (known : List (List ℕ)) (n : ℕ) (t : List ℕ)
    → Name old ns known → slice_get new n ≡ Some t → Name new (ns ++ n ∷ []) (known ++ t ∷ [])
named_then old new kept [] [] n t named at = ap (λ x. x ∷ []) at
named_then old new kept [] (k ∷ known) n t named at = absurd (omega (arith, ap length named))
named_then old new kept (m ∷ ns) [] n t named at = absurd (omega (arith, ap length named))
named_then old new kept (m ∷ ns) (k ∷ known) n t named at =
    let first : slice_get new m ≡ Some k = kept_at old new m k kept (ap (head_or None) named) in
    let rest : Name new (ns ++ n ∷ []) (known ++ t ∷ []) = named_then old new kept ns known n t (ap tail named) at in
    ap (λ x. x ∷ map (slice_get new) (ns ++ n ∷ [])) first ∙ ap (λ l. Some k ∷ l) rest

-- the key of a set that equals a text has the same bytes
pub stored_text : {V : Type 0} (view : V → List ℕ) (keys : List V) (n : ℕ) (k : V) (t : List ℕ) → slice_get keys n ≡ Some k
    → pointwise nat_eq t (view k) ≡ true → slice_get (map view keys) n ≡ Some t
stored_text view keys n k t at same = slice_get-map view keys n ∙ ap (option_map view) at ∙ ap Some (sym ((bytes_decides t (view k)).0 same))

-- two numbers are those of two texts
pub named_two : (texts : List (List ℕ)) (ns : List ℕ) (s t v w : List ℕ) → s ≡ v → t ≡ w → Name texts ns (s ∷ t ∷ []) → Name texts ns (v ∷ w ∷ [])
named_two texts ns s t v w first second named =
    subst (λ x. Name texts ns (x ∷ w ∷ [])) first (subst (λ y. Name texts ns (s ∷ y ∷ [])) second named)

-- one more seat has its number
pub named_seat : (texts : List (List ℕ)) (ns : List ℕ) (c : Core) (s : ℕ) (t : List ℕ) → t ≡ seat_text c (s + 1)
    → Name texts ns (state_text c ∷ link_text c.push ∷ (texts_of_seats c s ++ t ∷ []))
    → Name texts ns (state_text c ∷ link_text c.push ∷ texts_of_seats c (s + 1))
named_seat texts ns c s t is named = rw (add-one s)
    (subst (λ x. Name texts ns (state_text c ∷ link_text c.push ∷ (texts_of_seats c s ++ x ∷ []))) (rw (add-one s) at is) named)
