-- Several steps of a seat in one mutex of its pool: what holds of the seat after each of them, and what they add up to.
use Rattle.std.proofs.Common.{◌≡◌, ℕ, ◌<◌, ◌≤◌, List, [], ◌∷◌, ◌++◌, length, refl, sym, ap, ◌∙◌, subst, arith, append_assoc, length-append, Option}
use Rattle.std.specs.Prelude.{⊤, true, false}
use Rattle.std.proofs.lemmas.Nat.{div-add-mod'}
use Rattle.lfm_words.specs.declared.pop_lists.Record.{Record}
use Rattle.lfm_words.specs.Popped.{oldest}
use Rattle.lfm_words.specs.Words.{handoff_of, handoff_word}
use Rattle.lfm_protocol.specs.declared.answers.Call.{Call}
use Rattle.lfm_protocol.specs.declared.kinds.Kind.{Kind}
use Rattle.lfm_protocol.specs.declared.points.Entrant.{Entrant}
use Rattle.lfm_model.specs.declared.answers.How.{How}
use Rattle.lfm_protocol.specs.declared.points.Point.{Point}
use Rattle.lfm_protocol.specs.declared.points.Point.TheVariants.{Rest, EnterOwnerStore}
use Rattle.lfm_protocol.specs.declared.seats.SeatState.{SeatState}
use Rattle.lfm_protocol.specs.Place.{carries}
use Rattle.lfm_laws.specs.steady.Steady.{DepthAt}
use Rattle.lfm_laws.specs.table.Carried.{carries_value}
use Rattle.lfm_laws.specs.table.Words.{popped_by_step, stepped_by}
use Rattle.lfm_table.specs.declared.operations.Access.{Access}
use Rattle.lfm_table.specs.declared.seat_view.Seen.{Seen}
use Rattle.lfm_table.specs.declared.seat_view.View.{View}
use Rattle.lfm_table.specs.Actions.{RunGoesOn, seen}
use Rattle.lfm_table.proofs.tables.Actions.{run_next}
use Rattle.lfm_table.proofs.tables.StepFacts.{carrying, made_of}
use Rattle.lfm_pool.specs.declared.pool.Pool.{Pool}
use Rattle.lfm_pool.specs.declared.pool.TableSeat.{TableSeat}
use Rattle.lfm_pool.specs.Belongs.{SameSeat}
use Rattle.lfm_pool.specs.Chain.{needs_chain, note_after, note_since, rested}
use Rattle.lfm_pool.specs.FastPaths.{KnowsMoreOf}
use Rattle.lfm_pool.specs.Moves.{Made, MakesAtMostIn, MakesIn, MayStepIn, StartsIn}
use Rattle.lfm_pool.specs.Seats.{HoldsOnceIn, MovesIn, note_of, popped_of, state_of}
use Rattle.lfm_pool.specs.Steps.{IsPlainAccessOf, Sits, StepsIn, begun_in}
use Rattle.lfm_pool.specs.Tables.{part}
use Rattle.lfm_pool.proofs.FastPaths.{both, elsewhere_now, goes_on, note_now, part_now, sits_begun}
use Rattle.lfm_pool.proofs.Keeping.{carried_step, idle_at, since_carrying, since_idle, since_step}

-- The seat after some steps

-- the steps that made s to t have changed nothing but what the seat knows of mutex m, and left it between two steps
abbrev pub Leaves : TableSeat → TableSeat → Pool → ℕ → Type 0
Leaves s t p m = KnowsMoreOf m (λ w k. Sits s.number s.place.id p.limits w.state w) s.place.me t.place.me

module _ (s t : TableSeat) (p : Pool) (m : ℕ) where
  pub inside : MayStepIn s p m → m < length s.place.me.0.parts
  inside may = let less = may.mutex in let many = may.belongs.parts in omega (arith, less, many)

  -- it may make the next step
  pub may_then : MayStepIn s p m → SameSeat s t → Leaves s t p m → MayStepIn t p m
  may_then may same left =
      let here = inside may in record {
        belongs = record { table = same.table ∙ may.belongs.table; parts = same.parts ∙ may.belongs.parts };
        mutex = may.mutex;
        sits = subst (λ (z : ℕ × ℕ). Sits z.0 z.1 p.limits (state_of t m) (part t.place.me.0 m)) (λ i. (sym same.number i, sym same.id i))
            (subst (λ (y : View ⊤). Sits s.number s.place.id p.limits y.state y) (sym (part_now s.number s.place.id m p.limits s.place.me t.place.me t.place.me here left.0 left.1 left.2)) left.3);
        elsewhere = elsewhere_now s.number s.place.id m p.limits s.place.me t.place.me t.place.me here left.0 left.1 left.2 may.elsewhere;
      }

  -- after one step
  pub may_after : (x : SeatState) (n : ℕ) → MayStepIn s p m → SameSeat s t → StepsIn s.number s.place.id m p.limits x s.place.me n t.place.me → MayStepIn t p m
  may_after x n may same did = may_then may same (did.0, note_after x did.0 (note_of s m), did.1, did.2)

  -- what the seat knows of the mutex, and its data there
  pub part_after : (new : List Seen) (x : SeatState) → MayStepIn s p m → (made : MakesIn s t m new x) → part t.place.me.0 m ≡ made.0
  part_after new x may made = part_now s.number s.place.id m p.limits s.place.me t.place.me t.place.me (inside may) made.0 made.1 made.2

  pub state_after : (new : List Seen) (x : SeatState) → MayStepIn s p m → MakesIn s t m new x → state_of t m ≡ x
  state_after new x may made = ap (λ (y : View ⊤). y.state) (part_after new x may made) ∙ made.3.0.state

  -- its note: if the seat carries the mutex now, the chain is whole
  note_made : (new : List Seen) (x : SeatState) → MayStepIn s p m → (made : MakesIn s t m new x) → note_of t m ≡ note_since made.0 (note_of s m)
  note_made new x may made = note_now s.number s.place.id m p.limits s.place.me t.place.me t.place.me (inside may) made.0 made.1 made.2 ∙ made.3.1

  pub whole_after : (new : List Seen) (x : SeatState) → MayStepIn s p m → MakesIn s t m new x → carries_value x ≡ true → note_of t m ≡ rested (popped_of t m)
  whole_after new x may made on =
      note_made new x may made ∙ since_carrying made.0 (note_of s m) x made.3.0.state on ∙ ap (λ (y : View ⊤). rested y.popped) (sym (part_after new x may made))

  pub kept_after : (new : List Seen) (x : SeatState) → MayStepIn s p m → MakesIn s t m new x → carries_value x ≡ false → note_of t m ≡ note_of s m
  kept_after new x may made idle = note_made new x may made ∙ since_idle made.0 (note_of s m) x made.3.0.state idle

  -- a seat that rests and holds the mutex once may release it
  pub holds_after : (new : List Seen) (x : SeatState) → MayStepIn s p m → MakesIn s t m new x → MayStepIn t p m → x.point ≡ Rest → x.depth ≡ 1 → HoldsOnceIn t p m
  holds_after new x may made later rest one =
      let is = state_after new x may made in record {
        sits = later.sits;
        rests = ap (λ (z : SeatState). z.point) is ∙ rest;
        now = subst (λ (d : ℕ). Sits t.number t.place.id p.limits (record (state_of t m) { depth = d }) (part t.place.me.0 m)) (ap (λ (z : SeatState). z.depth) is ∙ one) later.sits;
        noted = whole_after new x may made (λ i. carries_value (made_of (one i) x.takes x.posts x.point));
      }

  -- the access of the next step
  pub next_access : (new : List Seen) (x : SeatState) (seats : ℕ) (access : Access) → MayStepIn s p m → MakesIn s t m new x → IsPlainAccessOf seats t.number x access → IsPlainAccessOf seats t.number (state_of t m) access
  next_access new x seats access may made is = subst (λ (z : SeatState). IsPlainAccessOf seats t.number z access) (sym (state_after new x may made)) is

  -- One step

  module _ (n : ℕ) (x y : SeatState) (leads : (o : Option Record) → (stepped_by x s.number n o).seat ≡ y) where
    pub made_by : Sits s.number s.place.id p.limits x (part s.place.me.0 m) → (did : StepsIn s.number s.place.id m p.limits x s.place.me n t.place.me) → Made (seen x.point n ∷ []) y (part s.place.me.0 m) did.0
    made_by sits did = record { trail = did.3.trail; state = did.3.state ∙ leads (oldest did.3.popped); run = goes_on s.number s.place.id p.limits x did.0.state (part s.place.me.0 m) did.0 n sits did.2 did.3 }

    -- of a seat that does not carry the mutex yet
    module _ (idle : DepthAt x.depth x.point → carries_value x ≡ false) where
      step_made : Sits s.number s.place.id p.limits x (part s.place.me.0 m) → StepsIn s.number s.place.id m p.limits x s.place.me n t.place.me → MakesIn s t m (seen x.point n ∷ []) y
      step_made sits did = (did.0, note_after x did.0 (note_of s m), did.1, (made_by sits did, since_step x did.0 (note_of s m) (idle did.3.deep)))

      -- the first step of a call
      pub start_made : (call : Call) → MayStepIn s p m → begun_in s.place.me.0 m p.limits call ≡ x → StartsIn s t p m call n → MakesIn s t m (seen x.point n ∷ []) y
      start_made call may begun did =
          step_made (subst (λ (z : SeatState). Sits s.number s.place.id p.limits z (part s.place.me.0 m)) begun (sits_begun s.number s.place.id p.limits (part s.place.me.0 m) may.sits call))
          (subst (λ (z : SeatState). StepsIn s.number s.place.id m p.limits z s.place.me n t.place.me) begun did)

      -- the next step of the open call
      pub move_made : MayStepIn s p m → state_of s m ≡ x → MovesIn s t p m n → MakesIn s t m (seen x.point n ∷ []) y
      move_made may at did =
          step_made (subst (λ (z : SeatState). Sits s.number s.place.id p.limits z (part s.place.me.0 m)) at may.sits)
          (subst (λ (z : SeatState). StepsIn s.number s.place.id m p.limits z s.place.me n t.place.me) at did)

-- Steps after steps

module _ (s t u : TableSeat) (p : Pool) (m : ℕ) (may : MayStepIn s p m) (new : List Seen) (x : SeatState) (first : MakesIn s t m new x) where
  pub both_made : (more : List Seen) (y : SeatState) (w : View ⊤) → Made more y (part t.place.me.0 m) w → Made (new ++ more) y (part s.place.me.0 m) w
  both_made more y w second =
      let now = part_after s t p m new x may first in record {
        trail = second.trail ∙ (ap (λ (v : View ⊤). v.trail ++ more) now ∙ (ap (λ (l : List Seen). l ++ more) first.3.0.trail ∙ append_assoc (part s.place.me.0 m).trail new more));
        state = second.state;
        run = run_next first.3.0.run (subst (λ (v : View ⊤). RunGoesOn v w) now second.run);
      }

  -- the seat did not carry the mutex between them
  pub join : carries_value x ≡ false → (more : List Seen) (y : SeatState) → MakesIn t u m more y → MakesIn s u m (new ++ more) y
  join idle more y second = (
    second.0,
    second.1,
    both s.number s.place.id m p.limits s.place.me t.place.me u.place.me (inside s t p m may) first.0 second.0 first.1 second.1 first.2 second.2,
    (both_made more y second.0 second.3.0, second.3.1 ∙ ap (note_since second.0) (kept_after s t p m new x may first idle)),
  )

  module _ (n : ℕ) (y : SeatState) (leads : (o : Option Record) → (stepped_by x t.number n o).seat ≡ y) where
    -- one more step of a seat that does not carry the mutex yet
    pub then_move : x.depth ≡ 0 → carries x.point ≡ false → MayStepIn t p m → MovesIn t u p m n → MakesIn s u m (new ++ seen x.point n ∷ []) y
    then_move flat none may_next did =
        let idle = idle_at x flat none in
        join idle (seen x.point n ∷ []) y (move_made t u p m n x y leads (λ deep. idle) may_next (state_after s t p m new x may first) did)

    -- one more step of a seat that carries the mutex and goes on to carry it, and that changes no record
    module _ (on : carries x.point ≡ true) (plain : needs_chain x.point ≡ false) (still : carries_value y ≡ true) (same : (l : List Record) → popped_by_step x t.number n l ≡ l) (may_next : MayStepIn t p m)
        (did : MovesIn t u p m n) where
      at : state_of t m ≡ x
      at = state_after s t p m new x may first

      abbrev Did : SeatState → Type 0
      Did z = StepsIn t.number t.place.id m p.limits z t.place.me n u.place.me

      did_of : Did x
      did_of = subst Did at did

      step_of : Made (seen x.point n ∷ []) y (part t.place.me.0 m) did_of.0
      step_of = made_by t u p m n x y leads (subst (λ (z : SeatState). Sits t.number t.place.id p.limits z (part t.place.me.0 m)) at may_next.sits) did_of

      same_list : did_of.0.popped ≡ popped_of t m
      same_list = did_of.3.listed ∙ same did_of.3.popped ∙ did_of.3.had (carrying x on)

      pub then_carry : MakesIn s u m (new ++ seen x.point n ∷ []) y
      then_carry = (
        did_of.0,
        note_after x did_of.0 (note_of t m),
        both s.number s.place.id m p.limits s.place.me t.place.me u.place.me (inside s t p m may) first.0 did_of.0 first.1 (note_after x did_of.0 (note_of t m)) first.2 did_of.1,
        (
          both_made (seen x.point n ∷ []) y did_of.0 step_of,
          carried_step x did_of.0 (note_of t m) (carrying x on) plain ∙ whole_after s t p m new x may first (carrying x on) ∙ ap rested (sym same_list)
              ∙ sym (since_carrying did_of.0 (note_of s m) y step_of.state still),
        ),
      )

-- the number of steps
pub at_most : (s t : TableSeat) (p : Pool) (m k : ℕ) (new : List Seen) (x : SeatState) → MayStepIn s p m → MakesIn s t m new x → length new ≤ k → MakesAtMostIn k s t m
at_most s t p m k new x may made less =
    let long = ap length (ap (λ (v : View ⊤). v.trail) (part_after s t p m new x may made) ∙ made.3.0.trail) ∙ length-append (part s.place.me.0 m).trail new in omega (arith, long, less)

-- The same seat after two calls

pub same_then : (s t u : TableSeat) → SameSeat s t → SameSeat t u → SameSeat s u
same_then s t u first second = record {
  table = second.table ∙ first.table;
  id = second.id ∙ first.id;
  number = second.number ∙ first.number;
  parts = second.parts ∙ first.parts;
}

-- a seat at a point
pub at_point : (x : SeatState) (q : Point) → x.point ≡ q → x ≡ made_of x.depth x.takes x.posts q
at_point x q at = λ i. record { depth = x.depth; takes = x.takes; posts = x.posts; point = at i }

-- Accesses that several calls make

pub enters_by : (seats number d t ps : ℕ) (entrant : Entrant) (how : How) → IsPlainAccessOf seats number (made_of d t ps (EnterOwnerStore entrant how)) (Access.Store 1 number)
enters_by seats number d t ps entrant how = (((Kind.OwnerStore, refl, refl, (λ n. refl), refl), omega arith, λ e. omega (arith, e)), refl)

-- a handoff word packs what it holds
pub packs_handoff : (n : ℕ) → handoff_word (handoff_of n) ≡ n
packs_handoff n = div-add-mod' n 65536
