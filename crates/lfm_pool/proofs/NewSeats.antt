-- What the first seat of a pool and the seats that are split off it know while the pool opens, and that each may try every
-- mutex.
use Rattle.std.proofs.Common.{◌≡◌, ℕ, zero, suc, true, ◌+◌, ◌*◌, ◌<◌, ◌≤◌, List, [], ◌∷◌, length, map, replicate, get_or, refl, sym, ap, ◌∙◌, subst, arith, Some, None}
use mathlib.Core.Option.{some}
use lib.ListN.{get_elem?}
use Rattle.std.specs.Prelude.{⊤, All}
use Rattle.std.specs.List.{insert}
use Rattle.std.proofs.lemmas.List.{length-replicate}
use Rattle.lfm_protocol.specs.declared.limits.Limits.{Limits}
use Rattle.lfm_protocol.specs.declared.seats.SeatState.{SeatState}
use Rattle.lfm_protocol.specs.Limits.{max_depth, max_seats}
use Rattle.lfm_protocol.specs.Seats.{absent}
use Rattle.lfm_table.specs.declared.seat_view.Role.TheVariants.{User}
use Rattle.lfm_table.specs.declared.seat_view.View.{View}
use Rattle.atomic_table.specs.Table.{Me}
use Rattle.lfm_table.specs.Rule.{first_view, no_view, split_view, with_split}
use Rattle.lfm_table.proofs.tables.FreshSeats.{fresh_became, fresh_ready, fresh_seated}
use Rattle.lfm_table.proofs.tables.OneMore.{and_first}
use Rattle.lfm_table.proofs.tables.RuleKept.{length_at}
use Rattle.lfm_pool.specs.declared.pool.Pool.{Pool}
use Rattle.lfm_pool.specs.declared.pool.TableSeat.{TableSeat}
use Rattle.lfm_pool.specs.declared.view.Known.{Known}
use Rattle.lfm_pool.specs.declared.view.PoolView.{PoolView}
use Rattle.lfm_pool.specs.Tables.{part, rests, unnoted}
use Rattle.lfm_pool.specs.Rule.{MaySplit, left_view, right_view}
use Rattle.lfm_pool.specs.Steps.{RestsElsewhere, Sits}
use Rattle.lfm_pool.specs.FastPaths.{MayTry}
use Rattle.lfm_pool.specs.declared.seat.PoolSeat.{PoolSeat}
use Rattle.lfm_pool.specs.Admissions.{most_posts}
use Rattle.lfm_pool.specs.Belongs.{IsMutex, IsNew, OfPool}
use Rattle.lfm_pool.specs.Calls.{IsBetweenCalls}
use Rattle.lfm_pool.specs.Counts.{CountsTakes, held_mutexes, one_hold}
use Rattle.lfm_pool.specs.Depths.{HasDepthIn}
use Rattle.lfm_pool.specs.declared.free_seats.FreeSeats.{FreeSeats}
use Rattle.lfm_pool.specs.NewSeats.{AreFreeSeats, IsNewSeat}
pub use Rattle.lfm_pool.specs.NewSeats.{first_after, same_of_each}
use Rattle.lfm_pool.specs.Seats.{state_of}

-- A fact about each element of a list by its place, and about all elements

read_at : {A : Type 0} (xs : List A) (i : ℕ) (d : A) → i < length xs → get_elem? xs i ≡ some (get_or xs i d)
read_at [] i d less = absurd (omega (arith, less))
read_at (x ∷ xs) zero d less = refl
read_at (x ∷ xs) (suc i) d less = read_at xs i d (omega (arith, less))

pub all_by_place : {A : Type 0} (P : A → Type 0) (xs : List A) → ((j : ℕ) (x : A) → get_elem? xs j ≡ some x → P x) → All P xs
all_by_place P xs each i d less = each i (get_or xs i d) (read_at xs i d less)

-- One mutex

-- the view of the next seat that the first seat splits off, after k others
abbrev pub split_after : Limits → ℕ → View ⊤
split_after l k = split_view (first_after l k)

none_taken : (takes budget : ℕ) → takes ≡ 0 → 0 < budget → takes < budget
none_taken takes budget none positive = omega (arith, none, positive)

-- a seat that has made no call may try
new_may_try : (number id : ℕ) (l : Limits) (v : View ⊤) → l.seats ≤ max_seats → 0 < l.budget → v.role ≡ User → v.number ≡ number → v.limits ≡ l → v.state ≡ absent → 0 < number → number ≤ l.seats
    → (number ≡ 1 → id ≡ 0) → (number ≡ 1 → v.made + 1 ≡ l.seats) → (number ≡ 1 → length v.joined ≡ 0) → MayTry number id l v
new_may_try number id l v few positive user named limits_are stands above within first made back =
    let words : ℕ = 4 + 2 * l.seats in
    let sits : Sits number id l absent v = record {
      seated = fresh_seated words id number l absent (v, []) refl user named limits_are refl stands;
      became = fresh_became words id number l absent (v, []) refl user named limits_are refl stands;
      ready = fresh_ready words id number l absent (v, []) refl user named limits_are refl stands above within;
      rooted = record { low = above; high = within; few = few; wide = refl; first = first; made = made; back = back };
    } in
    record {
      sits = subst (λ (x : SeatState). Sits number id l x v) (sym stands) sits;
      rests = ap (λ x. x.point) stands;
      flat = ap (λ x. x.depth) stands;
      charged = none_taken v.state.takes l.budget (ap (λ x. x.takes) stands) positive;
    }

pub first_may_try : (l : Limits) (k : ℕ) → l.seats ≤ max_seats → 0 < l.budget → k + 1 ≡ l.seats → MayTry 1 0 l (first_after l k)
first_may_try l k few positive last =
    new_may_try 1 0 l (first_after l k) few positive refl refl refl refl (omega arith) (omega (arith, last)) (λ e. refl) (λ e. last) (λ e. refl)

pub split_may_try : (id : ℕ) (l : Limits) (k : ℕ) → l.seats ≤ max_seats → 0 < l.budget → k + 2 ≤ l.seats → MayTry (k + 2) id l (split_after l k)
split_may_try id l k few positive most =
    new_may_try (k + 2) id l (split_after l k) few positive refl refl refl refl (omega arith) most (λ e. absurd (omega (arith, e))) (λ e. absurd (omega (arith, e))) (λ e. absurd (omega (arith, e)))

-- All mutexes

map_same : {A B : Type 0} (f : A → B) (n : ℕ) (x : A) → map f (replicate n x) ≡ replicate n (f x)
map_same f zero x = refl
map_same f (suc n) x = ap (λ ys. f x ∷ ys) (map_same f n x)

pub left_same : (mutexes : ℕ) (l : Limits) (k : ℕ) → left_view (same_of_each mutexes (first_after l k)) ≡ same_of_each mutexes (first_after l (k + 1))
left_same mutexes l k = λ i. record { parts = map_same (λ (x : Known). record x { view = with_split x.view }) mutexes (unnoted (first_after l k)) i; posts = 0; found = 0 }

pub right_same : (mutexes : ℕ) (l : Limits) (k : ℕ) → right_view (same_of_each mutexes (first_after l k)) ≡ same_of_each mutexes (split_after l k)
right_same mutexes l k = λ i. record { parts = map_same (λ (x : Known). unnoted (split_view x.view)) mutexes (unnoted (first_after l k)) i; posts = 0; found = 0 }

same_at : {A : Type 0} (n i : ℕ) (x d : A) → i < n → get_or (replicate n x) i d ≡ x
same_at zero i x d less = absurd (omega (arith, less))
same_at (suc n) zero x d less = refl
same_at (suc n) (suc i) x d less = same_at n i x d (omega (arith, less))

pub part_same_of_each : (mutexes m : ℕ) (v : View ⊤) → m < mutexes → part (same_of_each mutexes v) m ≡ v
part_same_of_each mutexes m v less = ap (λ (x : Known). x.view) (same_at mutexes m (unnoted v) (unnoted no_view) less)

pub same_may_split : (mutexes : ℕ) (l : Limits) (k : ℕ) → 0 < mutexes → k + 2 ≤ l.seats → MaySplit (same_of_each mutexes (first_after l k))
same_may_split mutexes l k any most =
    let long : length (replicate mutexes (unnoted (first_after l k))) ≡ mutexes = length-replicate mutexes (unnoted (first_after l k)) in (
      omega (arith, long, any),
      λ m less. rw (part_same_of_each mutexes m (first_after l k) (omega (arith, long, less))) (refl, most),
    )

pub same_rests : (mutexes m : ℕ) (v : View ⊤) → rests v ≡ true → RestsElsewhere (same_of_each mutexes v) m
same_rests mutexes m v rest n less other =
    let long : length (replicate mutexes (unnoted v)) ≡ mutexes = length-replicate mutexes (unnoted v) in
    rw (part_same_of_each mutexes n v (omega (arith, long, less))) rest

-- a seat that knows the same of each mutex, where it rests, has made no step and may try, is new
pub is_new : (s : TableSeat) (p : Pool) (number : ℕ) (l : Limits) (v : View ⊤) → s.place.table_id ≡ p.table.shared.table_id → p.limits ≡ l → s.number ≡ number → s.place.me ≡ (same_of_each p.mutexes v, [])
    → v.trail ≡ [] → rests v ≡ true → MayTry number s.place.id l v → OfPool s p × IsNew number p s
is_new s p number l v table limits_are named me none rest may =
    let seen : (m : ℕ) → IsMutex m p → part s.place.me.0 m ≡ v = λ m less. ap (λ (z : Me ℕ PoolView). part z.0 m) me ∙ part_same_of_each p.mutexes m v less in (
      record { table = table; parts = ap (λ (z : Me ℕ PoolView). length z.0.parts) me ∙ length-replicate p.mutexes (unnoted v) },
      record {
        number_is = named;
        may_try = λ m less. subst (λ (z : ℕ × Limits × View ⊤). MayTry z.0 s.place.id z.1 z.2) (λ i. (sym named i, sym limits_are i, sym (seen m less) i)) may;
        no_step = λ m less. ap (λ (w : View ⊤). w.trail) (seen m less) ∙ none;
        no_post = sym s.counted ∙ ap (λ (z : Me ℕ PoolView). z.0.posts) me;
        elsewhere = λ m. subst (λ (z : Me ℕ PoolView). RestsElsewhere z.0 m) (sym me) (same_rests p.mutexes m v rest);
      },
    )

pub first_is_new : (s : TableSeat) (p : Pool) (l : Limits) (k : ℕ) → l.seats ≤ max_seats → 0 < l.budget → k + 1 ≡ l.seats → s.place.table_id ≡ p.table.shared.table_id → s.place.id ≡ 0 → p.limits ≡ l
    → s.number ≡ 1 → s.place.me ≡ (same_of_each p.mutexes (first_after l k), []) → OfPool s p × IsNew 1 p s
first_is_new s p l k few positive last table id limits_are named me =
    is_new s p 1 l (first_after l k) table limits_are named me refl refl (subst (λ (i : ℕ). MayTry 1 i l (first_after l k)) (sym id) (first_may_try l k few positive last))

pub split_is_new : (s : TableSeat) (p : Pool) (l : Limits) (k : ℕ) → l.seats ≤ max_seats → 0 < l.budget → k + 2 ≤ l.seats → s.place.table_id ≡ p.table.shared.table_id → p.limits ≡ l
    → s.number ≡ k + 2 → s.place.me ≡ (same_of_each p.mutexes (split_after l k), []) → OfPool s p × IsNew (k + 2) p s
split_is_new s p l k few positive most table limits_are named me =
    is_new s p (k + 2) l (split_after l k) table limits_are named me refl refl (split_may_try s.place.id l k few positive most)

-- The seats of a new pool

least : (n : ℕ) → 0 ≤ n
least n = omega arith

none_below : 0 < 0 → ⊥
none_below less = omega (arith, less)

new_depth : (s : TableSeat) (p : Pool) (m : ℕ) → MayTry s.number s.place.id p.limits (part s.place.me.0 m) → HasDepthIn s p m 0
new_depth s p m may = record {
  sits = may.sits;
  now = subst (λ (d : ℕ). Sits s.number s.place.id p.limits (record (state_of s m) { depth = d }) (part s.place.me.0 m)) may.flat may.sits;
  rests = may.rests;
  most = least max_depth;
  noted = λ above. absurd (none_below above);
}

held_none : (n : ℕ) (v : View ⊤) → v.state.depth ≡ 0 → held_mutexes (replicate n (unnoted v)) ≡ 0
held_none zero v flat = refl
held_none (suc n) v flat = λ i. one_hold (flat i) + held_none n v flat i

at_most_none : (n : ℕ) → n ≡ 0 → n ≤ 0
at_most_none n is = omega (arith, is)

none_at_all : (posts held most : ℕ) → posts ≡ 0 → held ≡ 0 → posts + held + 0 ≤ most
none_at_all posts held most no_post none = omega (arith, no_post, none)

new_counts : (s : TableSeat) (p : Pool) (v : View ⊤) → s.place.me ≡ (same_of_each p.mutexes v, []) → v.state ≡ absent → CountsTakes 0 0 s p
new_counts s p v me stands = record {
  each = λ m less. at_most_none (state_of s m).takes (ap (λ (z : Me ℕ PoolView). (part z.0 m).state.takes) me ∙ ap (λ (w : View ⊤). w.state.takes) (part_same_of_each p.mutexes m v less) ∙ ap (λ (x : SeatState). x.takes) stands);
  own = none_at_all s.posts (held_mutexes s.place.me.0.parts) (most_posts + p.mutexes + 1) (sym s.counted ∙ ap (λ (z : Me ℕ PoolView). z.0.posts) me)
      (ap (λ (z : Me ℕ PoolView). held_mutexes z.0.parts) me ∙ held_none p.mutexes v (ap (λ (x : SeatState). x.depth) stands));
  within = least p.limits.budget;
}

-- a seat of which nothing is known but that it is new
new_pool_seat : (s : PoolSeat) (p : Pool) (number : ℕ) (v : View ⊤) → OfPool s.table_seat p × IsNew number p s.table_seat → s.takes ≡ 0 → s.asleep_in ≡ None → s.table_seat.place.me ≡ (same_of_each p.mutexes v, []) → v.state ≡ absent
    → IsNewSeat number p s × IsBetweenCalls s p
new_pool_seat s p number v is no_take awake me stands = (
  record { belongs = is.0; new = is.1; no_take = no_take; awake = awake },
  record {
    awake = λ e. (record { belongs = is.0; depths = λ m less. (0, new_depth s.table_seat p m (is.1.may_try m less)) }, subst (λ (n : ℕ). CountsTakes n 0 s.table_seat p) (sym no_take) (new_counts s.table_seat p v me stands));
    sleeps = λ m e. let no : None ≡ Some m = sym awake ∙ e in absurd (cc);
  },
)

-- what is known of a seat that has just been split off, as the k-th one
pub record IsSplitOff (p : Pool) (mutexes : ℕ) (l : Limits) (k : ℕ) (s : PoolSeat) : Type 0 where
  pub table : s.table_seat.place.table_id ≡ p.table.shared.table_id
  pub number : s.table_seat.number ≡ k + 2
  pub me : s.table_seat.place.me ≡ (same_of_each mutexes (split_after l k), [])
  pub no_take : s.takes ≡ 0
  pub awake : s.asleep_in ≡ None

below_all : (n i seats : ℕ) → n + 1 ≡ seats → i < n → i + 2 ≤ seats
below_all n i seats last low = omega (arith, last, low)

next_number : (j : ℕ) → j + 2 ≡ j + 1 + 1
next_number j = omega arith

abbrev same_me : ℕ → View ⊤ → Me ℕ PoolView
same_me mutexes v = (same_of_each mutexes v, [])

-- all seats, once the last one has been split off
module _ (p : Pool) (mutexes : ℕ) (l : Limits) (first : PoolSeat) (later items : List PoolSeat) (few : l.seats ≤ max_seats) (positive : 0 < l.budget) (sized : p.mutexes ≡ mutexes) (limits_are : p.limits ≡ l) (last : length later + 1 ≡ l.seats)
    (table : first.table_seat.place.table_id ≡ p.table.shared.table_id) (id : first.table_seat.place.id ≡ 0) (number : first.table_seat.number ≡ 1) (me : first.table_seat.place.me ≡ (same_of_each mutexes (first_after l (length later)), []))
    (no_take : first.takes ≡ 0) (awake : first.asleep_in ≡ None) (seats : (j : ℕ) (s : PoolSeat) → get_elem? later j ≡ some s → IsSplitOff p mutexes l j s) (items_are : items ≡ insert later 0 first) where
  in_pool : (v : View ⊤) → same_me mutexes v ≡ same_me p.mutexes v
  in_pool v = λ i. same_me (sym sized i) v

  first_new : IsNewSeat 1 p first × IsBetweenCalls first p
  first_new =
      let me' = me ∙ in_pool (first_after l (length later)) in
      new_pool_seat first p 1 (first_after l (length later)) (first_is_new first.table_seat p l (length later) few positive last table id limits_are number me') no_take awake me' refl

  later_new : (j : ℕ) (s : PoolSeat) → get_elem? later j ≡ some s → IsNewSeat (j + 1 + 1) p s × IsBetweenCalls s p
  later_new j s at =
      let k = seats j s at in let me' = k.me ∙ in_pool (split_after l j) in
      subst (λ (i : ℕ). IsNewSeat i p s × IsBetweenCalls s p) (next_number j)
      (new_pool_seat s p (j + 2) (split_after l j) (split_is_new s.table_seat p l j few positive (below_all (length later) j l.seats last (length_at later j s at)) k.table limits_are k.number me') k.no_take k.awake me' refl)

  pub all_new : (j : ℕ) (s : PoolSeat) → get_elem? items j ≡ some s → IsNewSeat (j + 1) p s × IsBetweenCalls s p
  all_new = and_first (λ j s. IsNewSeat (j + 1) p s × IsBetweenCalls s p) later items first items_are first_new later_new

-- The seats that nobody has taken

two_more : (k seats : ℕ) → k + 1 < seats → k + 2 ≤ seats
two_more k seats more = omega (arith, more)

one_taken : (k n seats : ℕ) → k + 1 < seats → n ≡ k + 1 → n < seats
one_taken k n seats more is = omega (arith, more, is)

module _ (f : FreeSeats) (p : Pool) (are : AreFreeSeats f p) where
  -- the seat that is split off next
  pub next_taken : (s : PoolSeat) → f.taken + 1 < p.limits.seats → s.table_seat.place.table_id ≡ f.first.place.table_id → s.table_seat.number ≡ f.taken + 2 → s.table_seat.place.me ≡ (right_view f.first.place.me.0, [])
      → s.takes ≡ 0 → s.asleep_in ≡ None → IsNewSeat (f.taken + 2) p s × IsBetweenCalls s p
  next_taken s more table number me no_take awake =
      let seen : s.table_seat.place.me ≡ same_me p.mutexes (split_after p.limits f.taken) = me ∙ ap (λ (z : Me ℕ PoolView). (right_view z.0, [])) are.knows ∙ (λ i. (right_same p.mutexes p.limits f.taken i, [])) in
      new_pool_seat s p (f.taken + 2) (split_after p.limits f.taken) (split_is_new s.table_seat p p.limits f.taken p.few.0 are.budget (two_more f.taken p.limits.seats more) (table ∙ are.table) refl number seen) no_take awake seen refl

  -- the seats that are left then
  pub others_free : (g : FreeSeats) → f.taken + 1 < p.limits.seats → g.taken ≡ f.taken + 1 → g.first.place.table_id ≡ f.first.place.table_id → g.first.place.id ≡ f.first.place.id → g.first.number ≡ f.first.number
      → g.first.place.me ≡ (left_view f.first.place.me.0, f.first.place.me.1) → AreFreeSeats g p
  others_free g more one table id number me = record {
    table = table ∙ are.table;
    id = id ∙ are.id;
    number = number ∙ are.number;
    knows = me ∙ ap (λ (z : Me ℕ PoolView). (left_view z.0, z.1)) are.knows ∙ (λ i. (left_same p.mutexes p.limits f.taken i, [])) ∙ (λ i. same_me p.mutexes (first_after p.limits (sym one i)));
    left = one_taken f.taken g.taken p.limits.seats more one;
    mutexes = are.mutexes;
    budget = are.budget;
  }

  -- the last seat
  pub last_taken : (s : PoolSeat) → f.taken + 1 ≡ p.limits.seats → s.table_seat ≡ f.first → s.takes ≡ 0 → s.asleep_in ≡ None → IsNewSeat 1 p s × IsBetweenCalls s p
  last_taken s last is no_take awake =
      let seen : s.table_seat.place.me ≡ same_me p.mutexes (first_after p.limits f.taken) = ap (λ (t : TableSeat). t.place.me) is ∙ are.knows in
      new_pool_seat s p 1 (first_after p.limits f.taken)
      (first_is_new s.table_seat p p.limits f.taken p.few.0 are.budget last (ap (λ (t : TableSeat). t.place.table_id) is ∙ are.table) (ap (λ (t : TableSeat). t.place.id) is ∙ are.id) refl (ap (λ (t : TableSeat). t.number) is ∙ are.number) seen) no_take awake seen refl
