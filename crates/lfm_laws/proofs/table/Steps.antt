-- A step of any kind is one write of a number, and the seat's next state depends on the number found.
use Rattle.std.proofs.Common.{◌≡◌, ℕ, zero, suc, true, false, ◌+◌, ◌*◌, ◌^◌, ◌<◌, Bool, Option, Some, None, List, ◌∷◌, length, set, nat_eq, refl, sym, ap, ◌∙◌, arith, if◌then◌else◌}
use Rattle.std.specs.Prelude.{⊤, slice_index}
use prog.Atomic.{either}
use Rattle.std.proofs.lemmas.Bool.{ne_eqb}
use Rattle.std.proofs.lemmas.List.{set-get_or}
use Rattle.lfm_protocol.specs.declared.kinds.Kind.{Kind}
use Rattle.lfm_protocol.specs.declared.seats.SeatState.{SeatState}
use Rattle.lfm_words.specs.declared.handoffs.Handoff.{Handoff}
use Rattle.lfm_words.specs.declared.links.Link.{Link}
use Rattle.lfm_words.specs.declared.wakes.Wake.{Wake}
use Rattle.lfm_words.specs.declared.wakes.Wake.TheVariants.{Quiet, Waiting, Claimed, Grant}
use Rattle.lfm_words.specs.Popped.{oldest}
use Rattle.lfm_words.specs.Words.{link_word, handoff_word, wake_word, seat_field_size}
use Rattle.lfm_protocol.specs.After.{same_link, same_handoff, after_push_load, after_push_exchange, after_clear_head, after_link_load, after_handoff_load, after_handoff_exchange, after_wake_load, after_wake_exchange, loaded}
use Rattle.lfm_protocol.specs.Begin.{Stepped}
use Rattle.lfm_protocol.specs.Core.{Core}
use Rattle.lfm_protocol.specs.Points.{word}
use Rattle.lfm_protocol.specs.Seats.{entry, with_entry, seat, link, wake, absent, unposted, IsSeat}
use Rattle.lfm_laws.specs.steady.Steady.{SizesFit}
use Rattle.lfm_protocol.specs.Step.{step_of, claims_word}
use Rattle.lfm_protocol.specs.Stores.{expected_push, exchanged_push, expected_handoff, stored_link, stored_wake}
use Rattle.lfm_laws.specs.table.Words.{words, index_by, written_by, stepped_of, popped_of}
use Rattle.lfm_laws.proofs.table.Packing.{link_packed, handoff_packed, wake_packed, same_link_word, same_handoff_word, added_word, subtracted_word, cleared_word}
use Rattle.lfm_laws.proofs.table.Reads.{number_of, HasWord, read_word, words-put_link, words-put_wake}

-- what a step of this kind finds, with target t
abbrev pub found_by : Core → ℕ → Option Kind → ℕ
found_by c t None = c.count
found_by c t (Some k) = number_of c (word k t)

-- the words that a step of this kind touches exist, and what it reads and compares packs exactly
abbrev pub Exact : Core → SeatState → ℕ → ℕ → Option Kind → Type 0
Exact c x s t (Some Kind.CountAdd) = c.count + 1 < 2 ^ 64
Exact c x s t (Some Kind.CountSubtract) = (0 < c.count) × (c.count + 1 < 2 ^ 64)
Exact c x s t (Some Kind.PushLoad) = c.push.next < seat_field_size
Exact c x s t (Some Kind.PushExchange) = (c.push.next < seat_field_size) × ((expected_push x).next < seat_field_size)
Exact c x s t (Some Kind.ClearHead) = (c.push.next < seat_field_size) × (c.push.stamp < 2 ^ 48)
Exact c x s t (Some Kind.LinkLoad) = IsSeat c.seats t × ((link c.links t).next < seat_field_size)
Exact c x s t (Some Kind.LinkStore) = IsSeat c.seats t
Exact c x s t (Some Kind.HandoffLoad) = c.handoff.seat < seat_field_size
Exact c x s t (Some Kind.HandoffExchange) = (c.handoff.seat < seat_field_size) × ((expected_handoff x s).seat < seat_field_size)
Exact c x s t (Some Kind.WakeLoad) = IsSeat c.seats t
Exact c x s t (Some Kind.WakeStore) = IsSeat c.seats t
Exact c x s t (Some Kind.WakeExchange) = IsSeat c.seats t
Exact c x s t _ = ⊤

-- The number found

has_word : (c : Core) (x : SeatState) (s t : ℕ) (k : Kind) → Exact c x s t (Some k) → HasWord c.seats (word k t)
has_word c x s t Kind.CountExchange exact = tt
has_word c x s t Kind.CountAdd exact = tt
has_word c x s t Kind.CountSubtract exact = tt
has_word c x s t Kind.OwnerLoad exact = tt
has_word c x s t Kind.OwnerStore exact = tt
has_word c x s t Kind.PushLoad exact = tt
has_word c x s t Kind.PushExchange exact = tt
has_word c x s t Kind.ClearHead exact = tt
has_word c x s t Kind.LinkLoad exact = exact.0
has_word c x s t Kind.LinkStore exact = exact
has_word c x s t Kind.HandoffLoad exact = tt
has_word c x s t Kind.HandoffStore exact = tt
has_word c x s t Kind.HandoffExchange exact = tt
has_word c x s t Kind.WakeLoad exact = exact
has_word c x s t Kind.WakeStore exact = exact
has_word c x s t Kind.WakeExchange exact = exact

pub found_here : (c : Core) (x : SeatState) (s t : ℕ) (k : Option Kind) → SizesFit c → Exact c x s t k
    → slice_index (words c) (index_by (length c.seats) t k) ≡ found_by c t k
found_here c x s t None sizes exact = refl
found_here c x s t (Some k) sizes exact = read_word c (word k t) sizes (has_word c x s t k exact)

-- The words

-- a word is written back unchanged
same_words : (c : Core) (i n : ℕ) → slice_index (words c) i ≡ n → words c ≡ set (words c) i n
same_words c i n here = sym (ap (λ m. set (words c) i m) (sym here) ∙ set-get_or (words c) i 0)

either_if : (b : Bool) (x y z : ℕ) → (if b then x else y) ≡ either b x y
either_if true x y z = refl
either_if false x y z = refl

link_if : (b d : Bool) (x y : Link) → b ≡ d → link_word (if b then x else y) ≡ either d (link_word x) (link_word y)
link_if true d x y same = rw (← same) refl
link_if false d x y same = rw (← same) refl

handoff_if : (b d : Bool) (y : Handoff) → b ≡ d → handoff_word (if b then unposted else y) ≡ either d 0 (handoff_word y)
handoff_if true d y same = rw (← same) refl
handoff_if false d y same = rw (← same) refl

-- the exchange of WAITING to CLAIMED
words_claimed : (c : Core) (seats t : ℕ) (w : Wake) → seats ≡ length c.links → 0 < t → slice_index (words c) (3 + seats + t) ≡ wake_word w
    → words (claims_word c t w) ≡ set (words c) (3 + seats + t) (either (nat_eq (wake_word w) 1) 2 (wake_word w))
words_claimed c seats t Quiet size above here = same_words c (3 + seats + t) 0 here
words_claimed c seats t Waiting size above here = words-put_wake c seats t Claimed size above
words_claimed c seats t Claimed size above here = same_words c (3 + seats + t) 2 here
words_claimed c seats t (Grant stamp) size above here =
    rw (ne_eqb (3 + 4 * stamp) 1 (λ e. omega (arith, e))) (same_words c (3 + seats + t) (3 + 4 * stamp) here)

pub words_step_of : (c : Core) (s t : ℕ) (k : Option Kind) → SizesFit c → Exact c (seat c.seats s) s t k
    → words (step_of c s t k).core ≡ set (words c) (index_by (length c.seats) t k) (written_by (seat c.seats s) s (found_by c t k) k)
words_step_of c s t None sizes exact = refl
words_step_of c s t (Some Kind.CountExchange) sizes exact =
    ap (λ n. set (words c) 0 n) (either_if (nat_eq c.count 0) 1 c.count 0)
words_step_of c s t (Some Kind.CountAdd) sizes exact = ap (λ n. set (words c) 0 n) (sym (added_word c.count exact))
words_step_of c s t (Some Kind.CountSubtract) sizes exact =
    ap (λ n. set (words c) 0 n) (sym (subtracted_word c.count exact.0 (omega (arith, exact.1))))
words_step_of c s t (Some Kind.OwnerLoad) sizes exact = refl
words_step_of c s t (Some Kind.OwnerStore) sizes exact = refl
words_step_of c s t (Some Kind.PushLoad) sizes exact = refl
words_step_of c s t (Some Kind.PushExchange) sizes exact =
    let x = seat c.seats s in
    ap (λ n. set (words c) 3 n) (link_if (same_link c.push (expected_push x)) _ (exchanged_push x s) c.push (same_link_word c.push (expected_push x) exact.0 exact.1))
words_step_of c s t (Some Kind.ClearHead) sizes exact = ap (λ n. set (words c) 3 n) (sym (cleared_word c.push exact.0 exact.1))
words_step_of c s t (Some Kind.LinkLoad) sizes exact =
    same_words c (3 + t) (link_word (link c.links t)) (read_word c (word Kind.LinkLoad t) sizes exact.0)
words_step_of c s t (Some Kind.LinkStore) sizes exact =
    words-put_link c t (stored_link (seat c.seats s)) exact.above (omega (arith, exact.within, sizes.links))
words_step_of c s t (Some Kind.HandoffLoad) sizes exact = refl
words_step_of c s t (Some Kind.HandoffStore) sizes exact = refl
words_step_of c s t (Some Kind.HandoffExchange) sizes exact =
    let e = expected_handoff (seat c.seats s) s in
    ap (λ n. set (words c) 2 n) (handoff_if (same_handoff c.handoff e) _ c.handoff (same_handoff_word c.handoff e exact.0 exact.1))
words_step_of c s t (Some Kind.WakeLoad) sizes exact =
    same_words c (3 + length c.seats + t) (wake_word (wake c.wakes t)) (read_word c (word Kind.WakeLoad t) sizes exact)
words_step_of c s t (Some Kind.WakeStore) sizes exact =
    words-put_wake c (length c.seats) t (stored_wake (seat c.seats s)) (sym sizes.links) exact.above
words_step_of c s t (Some Kind.WakeExchange) sizes exact =
    words_claimed c (length c.seats) t (wake c.wakes t) (sym sizes.links) exact.above (read_word c (word Kind.WakeExchange t) sizes exact)

-- The seat

-- a seat is written back unchanged
same_seat : (seats : List SeatState) (s : ℕ) → seats ≡ with_entry seats s (seat seats s)
unfolding entry with_entry
same_seat seats zero = refl
same_seat seats (suc n) = sym (set-get_or seats n absent)

seats-claims_word : (c : Core) (t : ℕ) (w : Wake) → (claims_word c t w).seats ≡ c.seats
seats-claims_word c t Waiting = refl
seats-claims_word c t _ = refl

-- the list of seats after a method of seat s, applied to an unpacked number
abbrev with_method : {A : Type 0} → Core → ℕ → (A → Stepped) → A → List SeatState
with_method c s method a = with_entry c.seats s (method a).seat

pub seats_step_of : (c : Core) (s t : ℕ) (k : Option Kind) → Exact c (seat c.seats s) s t k
    → (step_of c s t k).core.seats ≡ with_entry c.seats s (stepped_of (seat c.seats s) s (found_by c t k) (oldest c.popped) k).seat
seats_step_of c s t None exact = same_seat c.seats s
seats_step_of c s t (Some Kind.CountExchange) exact = refl
seats_step_of c s t (Some Kind.CountAdd) exact = refl
seats_step_of c s t (Some Kind.CountSubtract) exact = refl
seats_step_of c s t (Some Kind.OwnerLoad) exact = refl
seats_step_of c s t (Some Kind.OwnerStore) exact = refl
seats_step_of c s t (Some Kind.PushLoad) exact =
    ap (with_method c s (after_push_load (seat c.seats s))) (sym (link_packed c.push exact))
seats_step_of c s t (Some Kind.PushExchange) exact =
    ap (with_method c s (after_push_exchange (seat c.seats s))) (sym (link_packed c.push exact.0))
seats_step_of c s t (Some Kind.ClearHead) exact =
    ap (with_method c s (after_clear_head (seat c.seats s))) (sym (link_packed c.push exact.0))
seats_step_of c s t (Some Kind.LinkLoad) exact =
    ap (with_method c s (after_link_load (seat c.seats s) s)) (sym (link_packed (link c.links t) exact.1))
seats_step_of c s t (Some Kind.LinkStore) exact = refl
seats_step_of c s t (Some Kind.HandoffLoad) exact =
    ap (with_method c s (after_handoff_load (seat c.seats s))) (sym (handoff_packed c.handoff exact))
seats_step_of c s t (Some Kind.HandoffStore) exact = refl
seats_step_of c s t (Some Kind.HandoffExchange) exact =
    ap (with_method c s (λ h. after_handoff_exchange (seat c.seats s) s h (oldest c.popped))) (sym (handoff_packed c.handoff exact.0))
seats_step_of c s t (Some Kind.WakeLoad) exact =
    ap (with_method c s (after_wake_load (seat c.seats s))) (sym (wake_packed (wake c.wakes t)))
seats_step_of c s t (Some Kind.WakeStore) exact = refl
seats_step_of c s t (Some Kind.WakeExchange) exact =
    let after : Stepped = after_wake_exchange (seat c.seats s) (wake c.wakes t) in
    ap (λ seats. with_entry seats s after.seat) (seats-claims_word c t (wake c.wakes t))
    ∙ ap (with_method c s (after_wake_exchange (seat c.seats s))) (sym (wake_packed (wake c.wakes t)))

pub turn_step_of : (c : Core) (s t : ℕ) (k : Option Kind) → Exact c (seat c.seats s) s t k
    → (step_of c s t k).turn ≡ (stepped_of (seat c.seats s) s (found_by c t k) (oldest c.popped) k).turn
turn_step_of c s t None exact = refl
turn_step_of c s t (Some Kind.CountExchange) exact = refl
turn_step_of c s t (Some Kind.CountAdd) exact = refl
turn_step_of c s t (Some Kind.CountSubtract) exact = refl
turn_step_of c s t (Some Kind.OwnerLoad) exact = refl
turn_step_of c s t (Some Kind.OwnerStore) exact = refl
turn_step_of c s t (Some Kind.PushLoad) exact = ap (λ l. (after_push_load (seat c.seats s) l).turn) (sym (link_packed c.push exact))
turn_step_of c s t (Some Kind.PushExchange) exact = ap (λ l. (after_push_exchange (seat c.seats s) l).turn) (sym (link_packed c.push exact.0))
turn_step_of c s t (Some Kind.ClearHead) exact = ap (λ l. (after_clear_head (seat c.seats s) l).turn) (sym (link_packed c.push exact.0))
turn_step_of c s t (Some Kind.LinkLoad) exact =
    ap (λ l. (after_link_load (seat c.seats s) s l).turn) (sym (link_packed (link c.links t) exact.1))
turn_step_of c s t (Some Kind.LinkStore) exact = refl
turn_step_of c s t (Some Kind.HandoffLoad) exact = ap (λ h. (after_handoff_load (seat c.seats s) h).turn) (sym (handoff_packed c.handoff exact))
turn_step_of c s t (Some Kind.HandoffStore) exact = refl
turn_step_of c s t (Some Kind.HandoffExchange) exact =
    ap (λ h. (after_handoff_exchange (seat c.seats s) s h (oldest c.popped)).turn) (sym (handoff_packed c.handoff exact.0))
turn_step_of c s t (Some Kind.WakeLoad) exact = ap (λ w. (after_wake_load (seat c.seats s) w).turn) (sym (wake_packed (wake c.wakes t)))
turn_step_of c s t (Some Kind.WakeStore) exact = refl
turn_step_of c s t (Some Kind.WakeExchange) exact = ap (λ w. (after_wake_exchange (seat c.seats s) w).turn) (sym (wake_packed (wake c.wakes t)))

-- The pop list

popped-claims_word : (c : Core) (t : ℕ) (w : Wake) → (claims_word c t w).popped ≡ c.popped
popped-claims_word c t Waiting = refl
popped-claims_word c t _ = refl

pub popped_step_of : (c : Core) (s t : ℕ) (k : Option Kind) → Exact c (seat c.seats s) s t k
    → (step_of c s t k).core.popped ≡ popped_of (seat c.seats s) t (found_by c t k) c.popped k
popped_step_of c s t None exact = refl
popped_step_of c s t (Some Kind.CountExchange) exact = refl
popped_step_of c s t (Some Kind.CountAdd) exact = refl
popped_step_of c s t (Some Kind.CountSubtract) exact = refl
popped_step_of c s t (Some Kind.OwnerLoad) exact = refl
popped_step_of c s t (Some Kind.OwnerStore) exact = refl
popped_step_of c s t (Some Kind.PushLoad) exact = refl
popped_step_of c s t (Some Kind.PushExchange) exact = refl
popped_step_of c s t (Some Kind.ClearHead) exact = refl
popped_step_of c s t (Some Kind.LinkLoad) exact = ap (λ l. loaded t l ∷ c.popped) (sym (link_packed (link c.links t) exact.1))
popped_step_of c s t (Some Kind.LinkStore) exact = refl
popped_step_of c s t (Some Kind.HandoffLoad) exact = refl
popped_step_of c s t (Some Kind.HandoffStore) exact = refl
popped_step_of c s t (Some Kind.HandoffExchange) exact = refl
popped_step_of c s t (Some Kind.WakeLoad) exact = refl
popped_step_of c s t (Some Kind.WakeStore) exact = refl
popped_step_of c s t (Some Kind.WakeExchange) exact = popped-claims_word c t (wake c.wakes t)
