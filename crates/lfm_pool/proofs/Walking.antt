-- The walk through a cleared push list: what holds of the seat after each record that it has collected.
use Rattle.std.proofs.Common.{◌≡◌, ◌≢◌, ℕ, ◌+◌, ◌^◌, ◌<◌, ◌≤◌, List, [], ◌∷◌, ◌++◌, drop, length, nat_eq, if◌then◌else◌, refl, sym, ap, ◌∙◌, subst, arith, append_assoc, append-nil}
use Rattle.std.specs.Prelude.{⊤, true}
use Rattle.std.proofs.lemmas.Bool.{ne_eqb}
use Rattle.std.proofs.lemmas.List.{set-get_or}
use Rattle.atomic_table.specs.Table.{Me}
use Rattle.lfm_words.specs.declared.links.Link.{Link}
use Rattle.lfm_words.specs.declared.pop_lists.Record.{Record}
use Rattle.lfm_words.specs.Popped.{oldest}
use Rattle.lfm_words.specs.Words.{link_of, link_word}
use Rattle.lfm_protocol.specs.declared.points.Carrier.{Carrier}
use Rattle.lfm_protocol.specs.declared.points.Point.{Point}
use Rattle.lfm_protocol.specs.declared.points.Point.TheVariants.{TakeLinkLoad}
use Rattle.lfm_protocol.specs.declared.seats.SeatState.{SeatState}
use Rattle.lfm_protocol.specs.After.{loaded, serves}
use Rattle.lfm_protocol.specs.Place.{carries}
use Rattle.lfm_protocol.specs.Points.{kind}
use Rattle.lfm_protocol.specs.Room.{PopFits}
use Rattle.lfm_laws.specs.table.Carried.{carries_value}
use Rattle.lfm_laws.specs.table.Words.{popped_by_step, stepped_by}
use Rattle.lfm_laws.proofs.table.Packing.{link_packed}
use Rattle.lfm_table.specs.declared.seat_view.View.{View}
use Rattle.lfm_table.specs.Actions.{RunGoesOn, seen}
use Rattle.lfm_table.specs.Rule.{no_view}
use Rattle.lfm_table.specs.Steps.{gives_at}
use Rattle.lfm_table.proofs.tables.Actions.{run_next, run_same}
use Rattle.lfm_table.proofs.tables.StepFacts.{carrying, keeps_value, made_of}
use Rattle.lfm_pool.specs.declared.pool.Pool.{Pool}
use Rattle.lfm_pool.specs.declared.pool.TableSeat.{TableSeat}
use Rattle.lfm_pool.specs.declared.view.Note.{Note}
use Rattle.lfm_pool.specs.declared.view.PoolView.{PoolView}
use Rattle.lfm_pool.specs.Belongs.{IsMutex, OfPool, SameSeat}
use Rattle.lfm_pool.specs.Carrying.{CarriesIn, NotesIn}
use Rattle.lfm_pool.specs.Chain.{first_seat}
use Rattle.lfm_pool.specs.Collecting.{CollectsIn, CollectsOneIn, loads_of, walk_head}
use Rattle.lfm_pool.specs.Seats.{RestsInOthers, SitsIn, note_of, popped_of, state_of}
use Rattle.lfm_pool.specs.SeatWords.{LoadsLink}
use Rattle.lfm_pool.specs.Steps.{RestsElsewhere, Sits}
use Rattle.lfm_pool.specs.Tables.{note, part, unnoted, with_part}
use Rattle.lfm_pool.proofs.FastPaths.{elsewhere_with, goes_on, twice_with}
use Rattle.lfm_pool.proofs.LoneTables.{note_same, part_same}
use Rattle.lfm_pool.proofs.SeatWords.{target_of_load}

-- From s0 to s the seat has collected records in mutex m, the first of them that of the seat `head`, and the last that of
-- the seat `newer`, or none if that is 0. It collects that of the seat `target` next.
pub record Walking (p : Pool) (s0 s : TableSeat) (m : ℕ) (carrier : Carrier) (head target newer : ℕ) : Type 0 where
  pub same : SameSeat s0 s
  pub only : s.place.me ≡ (with_part s0.place.me.0 m (part s.place.me.0 m) (note_of s m), s0.place.me.1)
  pub sits : SitsIn s p m
  pub state : state_of s m ≡ record (state_of s0 m) { point = TakeLinkLoad carrier target }
  pub trail : (part s.place.me.0 m).trail ≡ (part s0.place.me.0 m).trail ++ loads_of carrier (popped_of s m) target
  pub begins : walk_head (popped_of s m) target ≡ head
  pub run : RunGoesOn (part s0.place.me.0 m) (part s.place.me.0 m)
  pub whole : (note_of s m).due ≡ 0
  pub newer_is : newer ≡ first_seat (popped_of s m)
  pub small : newer < 2 ^ 16
  pub narrow : target < 2 ^ 16
  pub few : length (popped_of s m) ≤ p.limits.seats

same_seat : (s : TableSeat) → SameSeat s s
same_seat s = record { table = refl; id = refl; number = refl; parts = refl }

pub walk_starts : (p : Pool) (s : TableSeat) (m head : ℕ) → SitsIn s p m → (at : LoadsLink head (state_of s m)) → popped_of s m ≡ [] → (note_of s m).due ≡ 0 → head < 2 ^ 16 → Walking p s s m at.0 head head 0
walk_starts p s m head sits at none whole narrow = record {
  same = same_seat s;
  only = λ i. (record s.place.me.0 { parts = sym (set-get_or s.place.me.0.parts m (unnoted no_view)) i }, s.place.me.1);
  sits = sits;
  state = λ i. record (state_of s m) { point = at.1 i };
  trail = sym (append-nil (part s.place.me.0 m).trail) ∙ ap (λ (l : List Record). (part s.place.me.0 m).trail ++ loads_of at.0 l head) (sym none);
  begins = ap (λ (l : List Record). walk_head l head) none;
  run = run_same;
  whole = whole;
  newer_is = sym (ap first_seat none);
  small = omega arith;
  narrow = narrow;
  few = let n = ap (λ (l : List Record). length l) none in omega (arith, n);
}

module _ (p : Pool) (s0 s t : TableSeat) (m : ℕ) (carrier : Carrier) (head target newer : ℕ) (belongs : OfPool s0 p) (mutex : IsMutex m p) (walk : Walking p s0 s m carrier head target newer)
    (link : Link) (narrow : link.next < 2 ^ 16) (same : SameSeat s t) (step : CollectsOneIn s t p m (link_word link)) where
  here : m < length s.place.me.0.parts
  here = let a = walk.same.parts in let b = belongs.parts in omega (arith, a, b, mutex)

  now_part : part t.place.me.0 m ≡ step.0
  now_part = ap (λ (z : Me ℕ PoolView). part z.0 m) step.2 ∙ part_same s.place.me.0 m step.0 step.1 here

  now_note : note_of t m ≡ note_of s m
  now_note = ap (λ (z : Me ℕ PoolView). note z.0 m) step.2 ∙ note_same s.place.me.0 m step.0 step.1 here ∙ step.3.2

  at : (state_of s m).point ≡ TakeLinkLoad carrier target
  at = ap (λ (y : SeatState). y.point) walk.state

  before : carries_value (state_of s m) ≡ true
  before = carrying (state_of s m) (ap carries at)

  is_link : link_of (link_word link) ≡ link
  is_link = link_packed link narrow

  now_popped : popped_of t m ≡ record { seat = target; stamp = link.stamp } ∷ popped_of s m
  now_popped =
      ap (λ (y : View ⊤). y.popped) now_part ∙ step.3.0.listed
      ∙ ap (λ (q : Point). popped_by_step (made_of (state_of s m).depth (state_of s m).takes (state_of s m).posts q) s.number (link_word link) step.3.0.popped) at
      ∙ (λ j. loaded target (is_link j) ∷ step.3.0.had before j)

  now_state : state_of t m ≡ record (state_of s0 m) { point = if nat_eq link.next 0 then serves carrier s.number (record { seat = target; stamp = link.stamp }) else TakeLinkLoad carrier link.next }
  now_state =
      ap (λ (y : View ⊤). y.state) now_part ∙ step.3.0.state
      ∙ ap (λ (y : SeatState). (stepped_by y s.number (link_word link) (oldest step.3.0.popped)).seat) walk.state
      ∙ ap (λ (k : Link). record (state_of s0 m) { point = if nat_eq k.next 0 then serves carrier s.number (loaded target k) else TakeLinkLoad carrier k.next }) is_link

  now_trail : (part t.place.me.0 m).trail ≡ (part s0.place.me.0 m).trail ++ loads_of carrier (popped_of t m) link.next
  now_trail =
      ap (λ (y : View ⊤). y.trail) now_part ∙ step.3.0.trail
      ∙ ap (λ (q : Point). (part s.place.me.0 m).trail ++ seen q (link_word link) ∷ []) at
      ∙ ap (λ ts. ts ++ seen (TakeLinkLoad carrier target) (link_word link) ∷ []) walk.trail
      ∙ append_assoc (part s0.place.me.0 m).trail (loads_of carrier (popped_of s m) target) (seen (TakeLinkLoad carrier target) (link_word link) ∷ [])
      ∙ ap (λ (l : List Record). (part s0.place.me.0 m).trail ++ loads_of carrier l link.next) (sym now_popped)

  now_begins : walk_head (popped_of t m) link.next ≡ head
  now_begins = ap (λ (l : List Record). walk_head l link.next) now_popped ∙ walk.begins

  now_run : RunGoesOn (part s0.place.me.0 m) (part t.place.me.0 m)
  now_run =
      run_next walk.run
      (subst (λ (y : View ⊤). RunGoesOn (part s.place.me.0 m) y) (sym now_part) (goes_on s.number s.place.id p.limits (state_of s m) step.0.state (part s.place.me.0 m) step.0 (link_word link) walk.sits step.3.1 step.3.0))

  now_sits : SitsIn t p m
  now_sits = subst (λ (y : ℕ × ℕ × View ⊤). Sits y.0 y.1 p.limits y.2.state y.2) (λ j. (sym same.number j, sym same.id j, sym now_part j)) step.3.1

  now_only : t.place.me ≡ (with_part s0.place.me.0 m (part t.place.me.0 m) (note_of t m), s0.place.me.1)
  now_only =
      step.2 ∙ ap (λ (z : Me ℕ PoolView). (with_part z.0 m step.0 step.1, z.1)) walk.only
      ∙ (λ j. (twice_with s0.place.me.0 m (part s.place.me.0 m) step.0 (note_of s m) step.1 j, s0.place.me.1))
      ∙ (λ j. (with_part s0.place.me.0 m (sym now_part j) ((step.3.2 ∙ sym now_note) j), s0.place.me.1))

  -- the load has told that there is room for one more record
  pub walk_room : length (popped_of s m) < p.limits.seats
  walk_room =
      let room : PopFits (length step.3.0.popped) (part s.place.me.0 m).limits.seats (kind (TakeLinkLoad carrier target)) = subst (λ (q : Point). PopFits (length step.3.0.popped) (part s.place.me.0 m).limits.seats (kind q)) at step.3.0.room in
      let same_limits = ap (λ l. l.seats) walk.sits.seated.limits_are in
      let list = ap (λ (l : List Record). length l) (step.3.0.had before) in
      omega (arith, room, same_limits, list)

  pub now_count : length (popped_of t m) ≡ length (popped_of s m) + 1
  now_count = ap (λ (l : List Record). length l) now_popped ∙ (let q : length (record { seat = target; stamp = link.stamp } ∷ popped_of s m) ≡ length (popped_of s m) + 1 = omega arith in q)

  now_same : SameSeat s0 t
  now_same = record { table = same.table ∙ walk.same.table; id = same.id ∙ walk.same.id; number = same.number ∙ walk.same.number; parts = same.parts ∙ walk.same.parts }

  pub walks_on : link.next ≢ 0 → Walking p s0 t m carrier head link.next target
  walks_on more = record {
    same = now_same;
    only = now_only;
    sits = now_sits;
    state = now_state ∙ ap (λ b. record (state_of s0 m) { point = if b then serves carrier s.number (record { seat = target; stamp = link.stamp }) else TakeLinkLoad carrier link.next }) (ne_eqb link.next 0 more);
    trail = now_trail;
    begins = now_begins;
    run = now_run;
    whole = ap (λ (n : Note). n.due) now_note ∙ walk.whole;
    newer_is = ap first_seat (sym now_popped);
    small = walk.narrow;
    narrow = narrow;
    few = let n = now_count in let r = walk_room in omega (arith, n, r);
  }

  pub walk_carries : CarriesIn t m
  walk_carries =
      ap (λ (y : View ⊤). carries_value y.state) now_part ∙ ap carries_value step.3.0.state
      ∙ keeps_value (state_of s m) s.number (link_word link) (oldest step.3.0.popped) (ap gives_at at) (carrying (state_of s m) (ap carries at))

  pub walk_ends : (u : TableSeat) → link.next ≡ 0 → SameSeat t u → NotesIn t u m (record (note_of t m) { carried = newer }) → (begins : (state_of s0 m).point ≡ TakeLinkLoad carrier head) → CollectsIn s0 u p m head (record { seat = target; stamp = link.stamp })
  walk_ends u last same_now notes begins = (
    carrier,
    begins,
    (
      part t.place.me.0 m,
      record (note_of t m) { carried = newer },
      notes ∙ ap (λ (z : Me ℕ PoolView). (with_part z.0 m (part t.place.me.0 m) (record (note_of t m) { carried = newer }), z.1)) now_only
          ∙ (λ j. (twice_with s0.place.me.0 m (part t.place.me.0 m) (part t.place.me.0 m) (note_of t m) (record (note_of t m) { carried = newer }) j, s0.place.me.1)),
      (
        record {
          oldest = (popped_of s m, now_popped);
          begins = ap (λ (n : ℕ). walk_head (popped_of t m) n) (sym last) ∙ now_begins;
          trail = now_trail ∙ ap (λ (n : ℕ). (part s0.place.me.0 m).trail ++ loads_of carrier (popped_of t m) n) last;
          state = now_state ∙ (λ j. record (state_of s0 m) { point = if nat_eq (last j) 0 then serves carrier (walk.same.number j) (record { seat = target; stamp = link.stamp }) else TakeLinkLoad carrier (last j) });
          run = now_run;
        },
        subst (λ (y : ℕ × ℕ). Sits y.0 y.1 p.limits (state_of t m) (part t.place.me.0 m)) (λ j. (now_same.number j, now_same.id j)) now_sits,
        λ j. record { due = (ap (λ (n : Note). n.due) now_note ∙ walk.whole) j; carried = (walk.newer_is ∙ ap (λ (l : List Record). first_seat (drop 1 l)) (sym now_popped)) j },
      ),
    ),
  )

pub walk_elsewhere : (p : Pool) (s0 s : TableSeat) (m : ℕ) (carrier : Carrier) (head target newer : ℕ) → Walking p s0 s m carrier head target newer → RestsInOthers s0 m → RestsInOthers s m
walk_elsewhere p s0 s m carrier head target newer walk elsewhere =
    subst (λ (z : Me ℕ PoolView). RestsElsewhere z.0 m) (sym walk.only) (elsewhere_with s0.place.me.0 m (part s.place.me.0 m) (note_of s m) elsewhere)

pub walk_target : (p : Pool) (s : TableSeat) (m target : ℕ) → SitsIn s p m → LoadsLink target (state_of s m) → (0 < target) × (target ≤ p.limits.seats)
walk_target p s m target sits at = target_of_load p.mutexes p.limits.seats m s.number 0 0 (state_of s m) sits.ready target at
