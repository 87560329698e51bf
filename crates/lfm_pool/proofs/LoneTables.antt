-- The table of one mutex of a pool by itself, and the parts of a view.
use Rattle.std.proofs.Common.{◌≡◌, ◌≢◌, ℕ, zero, suc, ◌+◌, ◌*◌, ◌<◌, List, [], ◌∷◌, length, get_or, set, map, refl, ap, ◌∙◌, arith}
use Rattle.std.specs.Prelude.{⊤, true, slice_index}
use Rattle.std.proofs.lemmas.Bool.{eq-eqb, ne_eqb}
use Rattle.std.proofs.lemmas.List.{get_or-set_other, get_or-set_same, length-map, length-append}
use mathlib.Core.Option.{some}
use lib.ListN.{get_elem?}
use Rattle.lfm_protocol.specs.declared.kinds.Word.{Word}
use Rattle.lfm_protocol.specs.declared.points.Point.{Point}
use Rattle.lfm_protocol.specs.declared.points.Point.TheVariants.{Rest}
use Rattle.lfm_words.specs.declared.wakes.Wake.TheVariants.{Quiet}
use Rattle.lfm_words.specs.Words.{link_word, wake_word}
use Rattle.lfm_protocol.specs.Core.{Core}
use Rattle.lfm_protocol.specs.Seats.{seat, wake}
use Rattle.lfm_laws.specs.steady.Numbered.{changed}
use Rattle.lfm_laws.specs.table.Words.{words}
use Rattle.lfm_laws.proofs.table.Reads.{read_word}
use Rattle.lfm_table.specs.declared.seat_view.View.{View}
use Rattle.lfm_table.specs.Rule.{no_view}
use Rattle.lfm_table.proofs.tables.RuleKept.{length_at}
use Rattle.lfm_pool.proofs.Resting.{resting_wakes_are_quiet}
use Rattle.lfm_pool.specs.declared.view.Known.{Known}
use Rattle.lfm_pool.specs.declared.view.Note.{Note}
use Rattle.lfm_pool.specs.declared.view.PoolView.{PoolView}
use Rattle.lfm_pool.specs.Tables.{MutexTable, IsKept, known, note, part, with_part, rests_at, rests, unnoted}

pub changed_same : {A : Type 0} (f : ℕ → A) (i : ℕ) (x : A) → changed f i x i ≡ x
changed_same f i x = rw (eq-eqb i i refl) refl

pub changed_other : {A : Type 0} (f : ℕ → A) (i j : ℕ) (x : A) → j ≢ i → changed f i x j ≡ f j
changed_other f i j x other = rw (ne_eqb j i other) refl

-- A table of a mutex

-- it has four words, and two for each seat
pub seats_of : (p : MutexTable) (h : IsKept p) → length p.words ≡ 4 + 2 * length h.core.seats
seats_of p h =
    let c : Core = h.core in
    let links = length-map h.core.links link_word in
    let wakes = length-map h.core.wakes wake_word in
    let both = length-append (map link_word h.core.links) (map wake_word h.core.wakes) in
    let same : length p.words ≡ length (words h.core) = ap length h.words_are in
    let sizes = h.fits.sizes in
    omega (arith, links, wakes, both, same, sizes.links, sizes.wakes)

is_rest : (q : Point) → rests_at q ≡ true → q ≡ Rest
is_rest Rest e = refl
is_rest _ e = absurd (cc)

-- the wake word of a seat that rests is QUIET
pub quiet_wake : (p : MutexTable) (h : IsKept p) (seats j : ℕ) (v : View ⊤) → length p.words ≡ 4 + 2 * seats → get_elem? p.views j ≡ some v → rests v ≡ true → slice_index p.words (4 + seats + j) ≡ 0
quiet_wake p h seats j v sized at rest =
    let c : Core = h.core in
    let many : length h.core.seats ≡ seats = let w = seats_of p h in omega (arith, w, sized) in
    let below : j < length h.core.seats = let b = length_at p.views j v at in omega (arith, b, h.few) in
    let point : (seat h.core.seats (j + 1)).point ≡ Rest = ap (λ x. x.point) (h.each j v at).state ∙ is_rest v.state.point rest in
    let silent : wake h.core.wakes (j + 1) ≡ Quiet = resting_wakes_are_quiet h.core h.ghost_state (j + 1) point h.fits in
    let read = read_word h.core (Word.Wake (j + 1)) h.fits.sizes (record { above = omega arith; within = omega (arith, below) }) in
    let index : 4 + seats + j ≡ 3 + length h.core.seats + (j + 1) = omega (arith, many) in
    ap (λ ws. get_or ws (4 + seats + j) 0) h.words_are ∙ ap (λ i. get_or (words h.core) i 0) index ∙ read ∙ ap wake_word silent

-- Views

pub known_same : (v : PoolView) (m : ℕ) (w : View ⊤) (n : Note) → m < length v.parts → known (with_part v m w n) m ≡ record (known v m) { view = w; note = n }
known_same v m w n here = get_or-set_same v.parts m (record (known v m) { view = w; note = n }) (unnoted no_view) here

pub known_other : (v : PoolView) (m i : ℕ) (w : View ⊤) (n : Note) → i ≢ m → known (with_part v m w n) i ≡ known v i
known_other v m i w n other = get_or-set_other v.parts m i (record (known v m) { view = w; note = n }) (unnoted no_view) other

-- the admissions stay

kept_at : (l : List Known) (m i : ℕ) (d : Known) (w : View ⊤) (n : Note) → (get_or (set l m (record (get_or l m d) { view = w; note = n })) i d).admission ≡ (get_or l i d).admission
kept_at [] m i d w n = refl
kept_at (k ∷ l) zero zero d w n = refl
kept_at (k ∷ l) zero (suc i) d w n = refl
kept_at (k ∷ l) (suc m) zero d w n = refl
kept_at (k ∷ l) (suc m) (suc i) d w n = kept_at l m i d w n

pub admission_same : (v : PoolView) (m i : ℕ) (w : View ⊤) (n : Note) → (known (with_part v m w n) i).admission ≡ (known v i).admission
admission_same v m i w n = kept_at v.parts m i (unnoted no_view) w n

pub part_same : (v : PoolView) (m : ℕ) (w : View ⊤) (n : Note) → m < length v.parts → part (with_part v m w n) m ≡ w
part_same v m w n here = ap (λ (k : Known). k.view) (known_same v m w n here)

pub note_same : (v : PoolView) (m : ℕ) (w : View ⊤) (n : Note) → m < length v.parts → note (with_part v m w n) m ≡ n
note_same v m w n here = ap (λ (k : Known). k.note) (known_same v m w n here)

pub part_other : (v : PoolView) (m i : ℕ) (w : View ⊤) (n : Note) → i ≢ m → part (with_part v m w n) i ≡ part v i
part_other v m i w n other = ap (λ (k : Known). k.view) (known_other v m i w n other)

pub note_other : (v : PoolView) (m i : ℕ) (w : View ⊤) (n : Note) → i ≢ m → note (with_part v m w n) i ≡ note v i
note_other v m i w n other = ap (λ (k : Known). k.note) (known_other v m i w n other)
