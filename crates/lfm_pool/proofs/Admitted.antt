-- A seat that may push a record in a mutex may still do so after steps that push none, and after a load that finds a stamp.
-- Nothing else that a seat knows changes by such a load.
use Rattle.std.proofs.Common.{◌≡◌, ℕ, zero, suc, ◌+◌, ◌<◌, List, [], ◌∷◌, ◌++◌, length, nat_eq, nat_lt, get_or, set, refl, sym, ap, ◌∙◌, subst, arith, length-set}
use Rattle.std.specs.Prelude.{⊤, true, ◌&&◌}
use Rattle.std.proofs.lemmas.Bool.{and_from, eq-eqb}
use Rattle.std.proofs.lemmas.List.{get_or-set_same}
use Rattle.atomic_table.specs.Table.{Me}
use Rattle.lfm_protocol.specs.declared.limits.Limits.{Limits}
use Rattle.lfm_protocol.specs.declared.points.Point.{Point}
use Rattle.lfm_protocol.specs.declared.seats.SeatState.{SeatState}
use Rattle.lfm_table.specs.declared.seat_view.Seen.{Seen}
use Rattle.lfm_table.specs.declared.seat_view.View.{View}
use Rattle.lfm_table.specs.Actions.{seen}
use Rattle.lfm_table.specs.Rule.{no_view}
use Rattle.lfm_pool.specs.declared.pool.Pool.{Pool}
use Rattle.lfm_pool.specs.declared.pool.TableSeat.{TableSeat}
use Rattle.lfm_pool.specs.declared.view.Admission.{Admission}
use Rattle.lfm_pool.specs.declared.view.Known.{Known}
use Rattle.lfm_pool.specs.declared.view.Note.{Note}
use Rattle.lfm_pool.specs.declared.view.PoolView.{PoolView}
use Rattle.lfm_pool.specs.Admissions.{IsAdmittedIn, after_load, is_admitted, most_stamps, pushed_at, pushes, stamp_in, with_admission}
use Rattle.lfm_pool.specs.Belongs.{OfPool, SameSeat}
use Rattle.lfm_pool.specs.Chain.{note_after}
use Rattle.lfm_pool.specs.Depths.{HasDepth, HasDepthIn}
use Rattle.lfm_pool.specs.FastPaths.{MayTry}
use Rattle.lfm_pool.specs.Moves.{MakesIn}
use Rattle.lfm_pool.specs.Seats.{MayTryIn, RestsInOthers, note_of, popped_of, state_of}
use Rattle.lfm_pool.specs.Steps.{StepsIn}
use Rattle.lfm_pool.specs.Tables.{known, note, part, rests, unnoted, with_part}
use Rattle.lfm_pool.proofs.LoneTables.{admission_same, part_same}

-- Steps

pub pushes_both : (xs ys : List Seen) → pushes (xs ++ ys) ≡ pushes xs + pushes ys
pushes_both [] ys = omega arith
pushes_both (x ∷ xs) ys = let h = pushes_both xs ys in omega (arith, h)

-- what counts is the admission, and how many records the seat has pushed
admitted_same : (k j : Known) → j.admission ≡ k.admission → pushes j.view.trail ≡ pushes k.view.trail → is_admitted k ≡ true → is_admitted j ≡ true
admitted_same k j same count is = (λ i. nat_eq (same i).next_push (count i + 1) && nat_lt (stamp_in (same i).found) most_stamps) ∙ is

admitted_with : (v : PoolView) (m : ℕ) (w : View ⊤) (n : Note) → m < length v.parts → pushes w.trail ≡ pushes (part v m).trail → is_admitted (known v m) ≡ true → is_admitted (known (with_part v m w n) m) ≡ true
admitted_with v m w n here same is =
    admitted_same (known v m) (known (with_part v m w n) m) (admission_same v m m w n) (ap (λ (y : View ⊤). pushes y.trail) (part_same v m w n here) ∙ same) is

-- what the seat knows of the mutex has changed by steps that push no record
module _ (m : ℕ) (me me' : Me ℕ PoolView) (here : m < length me.0.parts) (w : View ⊤) (n : Note) (now : me' ≡ (with_part me.0 m w n, me.1)) (new : List Seen)
    (trail : w.trail ≡ (part me.0 m).trail ++ new) (none : pushes new ≡ 0) (is : is_admitted (known me.0 m) ≡ true) where
  admitted_by : is_admitted (known me'.0 m) ≡ true
  admitted_by =
      let count = ap pushes trail ∙ pushes_both (part me.0 m).trail new in
      subst (λ (z : Me ℕ PoolView). is_admitted (known z.0 m) ≡ true) (sym now) (admitted_with me.0 m w n here (omega (arith, count, none)) is)

-- after a step that pushes no record, by the point at which the seat was
pub admitted_step : (number id m : ℕ) (l : Limits) (p : SeatState) (me : Me ℕ PoolView) (n : ℕ) (me' : Me ℕ PoolView) → m < length me.0.parts → (q : Point) → p.point ≡ q → pushed_at q n ≡ 0 → StepsIn number id m l p me n me'
    → is_admitted (known me.0 m) ≡ true → is_admitted (known me'.0 m) ≡ true
admitted_step number id m l p me n me' here q at none did is =
    let no_push : pushed_at p.point n ≡ 0 = ap (λ (x : Point). pushed_at x n) at ∙ none in
    admitted_by m me me' here did.0 (note_after p did.0 (note me.0 m)) did.1 (seen p.point n ∷ []) did.3.trail (omega (arith, no_push)) is

-- after several steps none of which pushes a record
pub admitted_made : (s t : TableSeat) (m : ℕ) (new : List Seen) (x : SeatState) → m < length s.place.me.0.parts → MakesIn s t m new x → pushes new ≡ 0 → IsAdmittedIn s m → IsAdmittedIn t m
admitted_made s t m new x here made none is = admitted_by m s.place.me t.place.me here made.0 made.1 made.2 new made.3.0.trail none is

-- The load of the push word

-- what the seat knows of a mutex, after it has other admissions
view_at : (l : List Known) (m i : ℕ) (d : Known) (a : Admission) → (get_or (set l m (record (get_or l m d) { admission = a })) i d).view ≡ (get_or l i d).view
view_at [] m i d a = refl
view_at (k ∷ l) zero zero d a = refl
view_at (k ∷ l) zero (suc i) d a = refl
view_at (k ∷ l) (suc m) zero d a = refl
view_at (k ∷ l) (suc m) (suc i) d a = view_at l m i d a

note_at : (l : List Known) (m i : ℕ) (d : Known) (a : Admission) → (get_or (set l m (record (get_or l m d) { admission = a })) i d).note ≡ (get_or l i d).note
note_at [] m i d a = refl
note_at (k ∷ l) zero zero d a = refl
note_at (k ∷ l) zero (suc i) d a = refl
note_at (k ∷ l) (suc m) zero d a = refl
note_at (k ∷ l) (suc m) (suc i) d a = note_at l m i d a

module _ (v : PoolView) (m found : ℕ) where
  abbrev given : Admission
  given = record { found = found; next_push = pushes (part v m).trail + 1 }

  pub length_admission : length (with_admission v m found).parts ≡ length v.parts
  length_admission = length-set v.parts m _

  pub part_admission : (i : ℕ) → part (with_admission v m found) i ≡ part v i
  part_admission i = view_at v.parts m i (unnoted no_view) given

  pub note_admission : (i : ℕ) → note (with_admission v m found) i ≡ note v i
  note_admission i = note_at v.parts m i (unnoted no_view) given

  -- the seat has pushed no record since
  pub admitted_now : m < length v.parts → nat_lt (stamp_in found) most_stamps ≡ true → is_admitted (known (with_admission v m found) m) ≡ true
  admitted_now here left =
      let count : ℕ = pushes (part v m).trail + 1 in
      ap is_admitted (get_or-set_same v.parts m (record (known v m) { admission = given }) (unnoted no_view) here)
      ∙ and_from (nat_eq count count) (nat_lt (stamp_in found) most_stamps) (eq-eqb count count refl) left

-- from s to t the seat has loaded the push word of mutex m, and has found this number there
module _ (s t : TableSeat) (m found : ℕ) (now : t.place.me ≡ (after_load s m found).place.me) where
  pub loaded_part : (i : ℕ) → part t.place.me.0 i ≡ part s.place.me.0 i
  loaded_part i = ap (λ (z : Me ℕ PoolView). part z.0 i) now ∙ part_admission s.place.me.0 m found i

  pub loaded_note : (i : ℕ) → note_of t i ≡ note_of s i
  loaded_note i = ap (λ (z : Me ℕ PoolView). note z.0 i) now ∙ note_admission s.place.me.0 m found i

  pub loaded_state : (i : ℕ) → state_of t i ≡ state_of s i
  loaded_state i = ap (λ (y : View ⊤). y.state) (loaded_part i)

  pub loaded_popped : (i : ℕ) → popped_of t i ≡ popped_of s i
  loaded_popped i = ap (λ (y : View ⊤). y.popped) (loaded_part i)

  pub loaded_length : length t.place.me.0.parts ≡ length s.place.me.0.parts
  loaded_length = ap (λ (z : Me ℕ PoolView). length z.0.parts) now ∙ length_admission s.place.me.0 m found

  -- the numbers of its posts
  pub loaded_posts : t.place.me.0.posts ≡ s.place.me.0.posts
  loaded_posts = ap (λ (z : Me ℕ PoolView). z.0.posts) now

  pub loaded_found : t.place.me.0.found ≡ s.place.me.0.found
  loaded_found = ap (λ (z : Me ℕ PoolView). z.0.found) now

  pub same_loaded : (t.place.table_id ≡ s.place.table_id) × (t.place.id ≡ s.place.id) × (t.number ≡ s.number) → SameSeat s t
  same_loaded same = record { table = same.0; id = same.1; number = same.2; parts = loaded_length }

  -- it may push a record, if it has found a stamp
  pub admitted_loaded : m < length s.place.me.0.parts → nat_lt (stamp_in found) most_stamps ≡ true → IsAdmittedIn t m
  admitted_loaded here left = subst (λ (z : Me ℕ PoolView). is_admitted (known z.0 m) ≡ true) (sym now) (admitted_now s.place.me.0 m found here left)

  pub others_loaded : (i : ℕ) → RestsInOthers s i → RestsInOthers t i
  others_loaded i rest n less other = ap rests (loaded_part n) ∙ rest n (let l = loaded_length in omega (arith, l, less)) other

  module _ (p : Pool) (same : SameSeat s t) where
    pub belongs_loaded : OfPool s p → OfPool t p
    belongs_loaded belongs = record { table = same.table ∙ belongs.table; parts = same.parts ∙ belongs.parts }

    pub may_try_loaded : (i : ℕ) → MayTryIn s p i → MayTryIn t p i
    may_try_loaded i may = subst (λ (z : ℕ × ℕ × View ⊤). MayTry z.0 z.1 p.limits z.2) (λ j. (sym same.number j, sym same.id j, sym (loaded_part i) j)) may

    pub depth_loaded : (i depth : ℕ) → HasDepthIn s p i depth → HasDepthIn t p i depth
    depth_loaded i depth has =
        subst (λ (z : ℕ × ℕ × View ⊤ × Note). HasDepth z.0 z.1 p.limits z.2 z.3 depth) (λ j. (sym same.number j, sym same.id j, sym (loaded_part i) j, sym (loaded_note i) j)) has
