-- The number at the index of a word in the list of words, and the list after a write of one word.
use Rattle.std.proofs.Common.{◌≡◌, ℕ, zero, suc, ◌+◌, ◌-◌, ◌<◌, ◌≤◌, ◌∷◌, ◌++◌, length, set, get_or, map, refl, sym, ap, ◌∙◌, arith}
use Rattle.std.specs.Prelude.{⊤, List, slice_index}
use Rattle.std.proofs.lemmas.List.{map-set, set-append_left, set-append_right, get_or_append_left, get_or-append_right, get_or-map, length-map}
use Rattle.lfm_protocol.specs.declared.kinds.Word.{Word}
use Rattle.lfm_protocol.specs.declared.seats.SeatState.{SeatState}
use Rattle.lfm_words.specs.declared.links.Link.{Link}
use Rattle.lfm_words.specs.declared.wakes.Wake.{Wake}
use Rattle.lfm_words.specs.declared.wakes.Wake.TheVariants.{Quiet}
use Rattle.lfm_words.specs.Words.{link_word, handoff_word, wake_word}
use Rattle.lfm_protocol.specs.Core.{Core, put_link, put_wake}
use Rattle.lfm_protocol.specs.Seats.{entry, with_entry, link, wake, no_link, IsSeat}
use Rattle.lfm_laws.specs.steady.Steady.{SizesFit}
use Rattle.lfm_laws.specs.table.Words.{words, index_of}

-- the content of a word, as a number
abbrev pub number_of : Core → Word → ℕ
number_of c Word.Count = c.count
number_of c Word.Owner = c.owner
number_of c Word.Handoff = handoff_word c.handoff
number_of c Word.Push = link_word c.push
number_of c (Word.Link t) = link_word (link c.links t)
number_of c (Word.Wake t) = wake_word (wake c.wakes t)

-- the seat of the word exists
abbrev pub HasWord : List SeatState → Word → Type 0
HasWord seats (Word.Link t) = IsSeat seats t
HasWord seats (Word.Wake t) = IsSeat seats t
HasWord seats _ = ⊤

read_link : (c : Core) (t : ℕ) → 0 < t → t ≤ length c.links → get_or (words c) (3 + t) 0 ≡ link_word (link c.links t)
unfolding entry
read_link c zero above within = absurd (omega arith)
read_link c (suc n) above within =
    let at : 3 + suc n ≡ suc (suc (suc (suc n))) = omega arith in
    rw at
    (get_or_append_left (map link_word c.links) (map wake_word c.wakes) 0 n (omega (arith, within, length-map c.links link_word))
    ∙ get_or-map link_word c.links n no_link 0 (omega (arith, within)))

read_wake : (c : Core) (seats t : ℕ) → seats ≡ length c.links → 0 < t → t ≤ length c.wakes → get_or (words c) (3 + seats + t) 0 ≡ wake_word (wake c.wakes t)
unfolding entry
read_wake c seats zero size above within = absurd (omega arith)
read_wake c seats (suc n) size above within =
    let at : 3 + seats + suc n ≡ suc (suc (suc (suc (seats + n)))) = omega arith in
    let here : seats + n - seats ≡ n = omega arith in
    let past =
    get_or-append_right (map link_word c.links) (map wake_word c.wakes) seats (seats + n) 0 (length-map c.links link_word ∙ sym size) (omega arith)
    in
    rw at ((rw here at past) ∙ get_or-map wake_word c.wakes n Quiet 0 (omega (arith, within)))

-- the number at the index of a word
pub read_word : (c : Core) (w : Word) → SizesFit c → HasWord c.seats w → slice_index (words c) (index_of (length c.seats) w) ≡ number_of c w
read_word c Word.Count sizes has = refl
read_word c Word.Owner sizes has = refl
read_word c Word.Handoff sizes has = refl
read_word c Word.Push sizes has = refl
read_word c (Word.Link t) sizes has = read_link c t has.above (omega (arith, has.within, sizes.links))
read_word c (Word.Wake t) sizes has =
    read_wake c (length c.seats) t (sym sizes.links) has.above (omega (arith, has.within, sizes.wakes))

pub words-put_link : (c : Core) (t : ℕ) (l : Link) → 0 < t → t ≤ length c.links → words (put_link c t l) ≡ set (words c) (3 + t) (link_word l)
unfolding with_entry
words-put_link c zero l above within = absurd (omega arith)
words-put_link c (suc n) l above within =
    let at : 3 + suc n ≡ suc (suc (suc (suc n))) = omega arith in
    rw at
    (ap (λ xs. c.count ∷ c.owner ∷ handoff_word c.handoff ∷ link_word c.push ∷ xs)
    (ap (λ xs. xs ++ map wake_word c.wakes) (map-set link_word c.links n l)
    ∙ sym (set-append_left (map link_word c.links) (map wake_word c.wakes) n (link_word l) (omega (arith, within, length-map c.links link_word)))))

pub words-put_wake : (c : Core) (seats t : ℕ) (w : Wake) → seats ≡ length c.links → 0 < t → words (put_wake c t w) ≡ set (words c) (3 + seats + t) (wake_word w)
unfolding with_entry
words-put_wake c seats zero w size above = absurd (omega arith)
words-put_wake c seats (suc n) w size above =
    let at : 3 + seats + suc n ≡ suc (suc (suc (suc (seats + n)))) = omega arith in
    let here : seats + n - seats ≡ n = omega arith in
    let past =
    set-append_right (map link_word c.links) (map wake_word c.wakes) seats (seats + n) (wake_word w) (length-map c.links link_word ∙ sym size) (omega arith)
    in
    rw at
    (ap (λ xs. c.count ∷ c.owner ∷ handoff_word c.handoff ∷ link_word c.push ∷ xs)
    (ap (λ xs. map link_word c.links ++ xs) (map-set wake_word c.wakes n w) ∙ sym (rw here at past)))
