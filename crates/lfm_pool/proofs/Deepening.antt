-- Steps of a seat that holds the mutex and goes on to hold it, and what its note is then.
use Rattle.std.proofs.Common.{◌≡◌, ◌≢◌, ℕ, ◌+◌, ◌-◌, ◌<◌, ◌≤◌, List, [], ◌∷◌, ◌++◌, length, nat_eq, nat_lt, refl, sym, ap, ◌∙◌, subst, inl, inr, arith, tests, append_assoc, Option}
use Rattle.std.specs.Prelude.{⊤, true, false}
use Rattle.std.proofs.lemmas.Bool.{cases_eq, eq-eqb, ne_eqb}
use Rattle.lfm_words.specs.declared.pop_lists.Record.{Record}
use Rattle.lfm_words.specs.Popped.{oldest}
use Rattle.lfm_protocol.specs.declared.answers.Call.{Call}
use Rattle.lfm_protocol.specs.declared.kinds.Kind.{Kind}
use Rattle.lfm_protocol.specs.declared.limits.Limits.{Limits}
use Rattle.lfm_protocol.specs.declared.points.Point.TheVariants.{Rest, LockCountAdd, LockOwnerLoad, LockCountSubtract, TryCountExchange, TryOwnerLoad}
use Rattle.lfm_protocol.specs.declared.seats.SeatState.{SeatState}
use Rattle.lfm_protocol.specs.Begin as Begin
use Rattle.lfm_protocol.specs.Limits.{max_depth}
use Rattle.lfm_laws.specs.steady.Steady.{DepthAt}
use Rattle.lfm_laws.specs.table.Carried.{carries_value}
use Rattle.lfm_laws.specs.table.Words.{popped_by_step, stepped_by}
use Rattle.lfm_table.specs.declared.operations.Access.{Access}
use Rattle.lfm_table.specs.declared.seat_view.Seen.{Seen}
use Rattle.lfm_table.specs.declared.seat_view.View.{View}
use Rattle.lfm_table.specs.Actions.{RunGoesOn, seen}
use Rattle.lfm_table.proofs.tables.Actions.{run_next}
use Rattle.lfm_table.proofs.tables.StepFacts.{made_of}
use Rattle.lfm_pool.specs.declared.pool.Pool.{Pool}
use Rattle.lfm_pool.specs.declared.pool.TableSeat.{TableSeat}
use Rattle.lfm_pool.specs.declared.view.Note.{Note}
use Rattle.lfm_pool.specs.Belongs.{SameSeat}
use Rattle.lfm_pool.specs.Carrying.{NotesIn}
use Rattle.lfm_pool.specs.Chain.{deep, needs_chain, note_after}
use Rattle.lfm_pool.specs.Depths.{DeepensBy}
use Rattle.lfm_pool.specs.FastPaths.{KnowsMoreOf}
use Rattle.lfm_pool.specs.Moves.{Made, MayStepIn, StartsAtIn}
use Rattle.lfm_pool.specs.Seats.{MovesIn, SitsIn, note_of, popped_of, state_of}
use Rattle.lfm_pool.specs.Steps.{IsPlainAccessOf, Sits, StepsIn, begun_at, state_at}
use Rattle.lfm_pool.specs.Tables.{part, with_part}
use Rattle.lfm_pool.proofs.FastPaths.{both, goes_on, note_now, part_now, sits_after_begin}
use Rattle.lfm_pool.proofs.Keeping.{carried_step}
use Rattle.lfm_pool.proofs.SeveralSteps.{may_then}

-- The start of a call

above_none : (d : ℕ) → 0 < d → nat_eq d 0 ≡ false
above_none d above = ne_eqb d 0 (λ e. omega (arith, e, above))

not_full : (d : ℕ) → d ≤ 65534 → nat_lt 65534 d ≡ false
not_full d less = search (tests, arith, less)

pub carries_deep : (x : SeatState) → 0 < x.depth → carries_value x ≡ true
carries_deep x above = let h = above_none x.depth above in rw h refl

module _ (x : SeatState) (l : Limits) (rests : x.point ≡ Rest) (above : 0 < x.depth) (less : x.depth < max_depth) where
  at_rest : x ≡ made_of x.depth x.takes x.posts Rest
  at_rest = λ i. record { depth = x.depth; takes = x.takes; posts = x.posts; point = rests i }

  pub try_begun_deep : (Begin.begin x l Call.TryLock).seat ≡ made_of x.depth x.takes x.posts TryCountExchange
  try_begun_deep =
      let full = not_full x.depth (omega (arith, less)) in
      let some = above_none x.depth above in
      let e : (Begin.begin (made_of x.depth x.takes x.posts Rest) l Call.TryLock).seat ≡ made_of x.depth x.takes x.posts TryCountExchange = rw (full, some) refl in
      ap (λ (y : SeatState). (Begin.begin y l Call.TryLock).seat) at_rest ∙ e

  pub ask_begun_deep : (Begin.begin x l Call.Lock).seat ≡ made_of x.depth x.takes x.posts LockCountAdd
  ask_begun_deep =
      let full = not_full x.depth (omega (arith, less)) in
      let some = above_none x.depth above in
      let e : (Begin.begin (made_of x.depth x.takes x.posts Rest) l Call.Lock).seat ≡ made_of x.depth x.takes x.posts LockCountAdd = rw (full, some) refl in
      ap (λ (y : SeatState). (Begin.begin y l Call.Lock).seat) at_rest ∙ e

-- an unlock of a seat that holds the mutex more than once ends at once
pub unlock_begun_deep : (x : SeatState) (l : Limits) → x.point ≡ Rest → 1 < x.depth → (Begin.begin x l Call.Unlock).seat ≡ record x { depth = x.depth - 1 }
unlock_begun_deep x l rests inner =
    let some = above_none x.depth (omega (arith, inner)) in
    let more = ne_eqb x.depth 1 (λ e. omega (arith, e, inner)) in
    let e : (Begin.begin (made_of x.depth x.takes x.posts Rest) l Call.Unlock).seat ≡ made_of (x.depth - 1) x.takes x.posts Rest = rw (some, more) refl in
    ap (λ (y : SeatState). (Begin.begin y l Call.Unlock).seat) (λ i. record { depth = x.depth; takes = x.takes; posts = x.posts; point = rests i }) ∙ e
    ∙ (λ i. made_of (x.depth - 1) x.takes x.posts (sym rests i))

-- Where each step leads: not to a point at which no seat holds the mutex

module _ (d t ps s n : ℕ) (o : Option Record) (above : 0 < d) where
  abbrev Deep : SeatState → Type 0
  Deep x = DepthAt (stepped_by x s n o).seat.depth (stepped_by x s n o).seat.point

  pub exchange_finds : Deep (made_of d t ps TryCountExchange) → n ≢ 0
  exchange_finds h free =
      let none : d ≡ 0 = subst (λ (k : ℕ). DepthAt (stepped_by (made_of d t ps TryCountExchange) s k o).seat.depth (stepped_by (made_of d t ps TryCountExchange) s k o).seat.point) free h in
      omega (arith, none, above)

  pub exchange_leads : Deep (made_of d t ps TryCountExchange) → (stepped_by (made_of d t ps TryCountExchange) s n o).seat ≡ made_of d t ps TryOwnerLoad
  exchange_leads h = let e = ne_eqb n 0 (exchange_finds h) in rw e refl

  pub count_finds : Deep (made_of d t ps LockCountAdd) → n ≢ 0
  count_finds h free =
      let none : d ≡ 0 = subst (λ (k : ℕ). DepthAt (stepped_by (made_of d t ps LockCountAdd) s k o).seat.depth (stepped_by (made_of d t ps LockCountAdd) s k o).seat.point) free h in
      omega (arith, none, above)

  pub count_leads : Deep (made_of d t ps LockCountAdd) → (stepped_by (made_of d t ps LockCountAdd) s n o).seat ≡ made_of d t ps LockOwnerLoad
  count_leads h = let e = ne_eqb n 0 (count_finds h) in rw e refl

  pub tried_finds : Deep (made_of d t ps TryOwnerLoad) → n ≡ s
  tried_finds h = elim (cases_eq n s) [
    | inl same ↦ same
    | inr other ↦ let b = ne_eqb n s other in let none : d ≡ 0 = rw b at h in absurd (omega (arith, none, above))
  ]

  pub tried_leads : Deep (made_of d t ps TryOwnerLoad) → (stepped_by (made_of d t ps TryOwnerLoad) s n o).seat ≡ made_of (d + 1) t ps Rest
  tried_leads h = let e = eq-eqb n s (tried_finds h) in rw e refl

  pub asked_finds : Deep (made_of d t ps LockOwnerLoad) → n ≡ s
  asked_finds h = elim (cases_eq n s) [
    | inl same ↦ same
    | inr other ↦ let b = ne_eqb n s other in let none : d ≡ 0 = rw b at h in absurd (omega (arith, none, above))
  ]

  pub asked_leads : Deep (made_of d t ps LockOwnerLoad) → (stepped_by (made_of d t ps LockOwnerLoad) s n o).seat ≡ made_of d t ps LockCountSubtract
  asked_leads h = let e = eq-eqb n s (asked_finds h) in rw e refl

-- Accesses

module _ (seats number d t ps : ℕ) where
  pub exchanges_deep : IsPlainAccessOf seats number (made_of d t ps TryCountExchange) (Access.CompareExchange 0 0 1)
  exchanges_deep = (((Kind.CountExchange, refl, refl, (λ n. refl), refl), omega arith, λ e. omega (arith, e)), refl)

  pub counts_deep : IsPlainAccessOf seats number (made_of d t ps LockCountAdd) (Access.FetchAdd 0 1)
  counts_deep = (((Kind.CountAdd, refl, refl, (λ n. refl), refl), omega arith, λ e. omega (arith, e)), refl)

  pub tries_owner : IsPlainAccessOf seats number (made_of d t ps TryOwnerLoad) (Access.Load 1)
  tries_owner = (((Kind.OwnerLoad, refl, refl, (λ n. refl), refl), omega arith, λ e. omega (arith, e)), refl)

  pub asks_owner : IsPlainAccessOf seats number (made_of d t ps LockOwnerLoad) (Access.Load 1)
  asks_owner = (((Kind.OwnerLoad, refl, refl, (λ n. refl), refl), omega arith, λ e. omega (arith, e)), refl)

  pub subtracts_deep : IsPlainAccessOf seats number (made_of d t ps LockCountSubtract) (Access.FetchSub 0 1)
  subtracts_deep = (((Kind.CountSubtract, refl, refl, (λ n. refl), refl), omega arith, λ e. omega (arith, e)), refl)

-- Steps

-- The step of a seat with this number, whose data are x, has found n. The seat carries the mutex, the step needs nothing of
-- the chain and leaves the pop list as it is, and the seat's data become y.
pub record StaysBy (x y : SeatState) (number n : ℕ) : Type 0 where
  pub carries : carries_value x ≡ true
  pub plain : needs_chain x.point ≡ false
  pub list : (l : List Record) → popped_by_step x number n l ≡ l
  pub leads : (o : Option Record) → DepthAt (stepped_by x number n o).seat.depth (stepped_by x number n o).seat.point → (stepped_by x number n o).seat ≡ y

-- From s to t the seat has made these steps in mutex m, its data are x now, its note is k, and the popped records are as
-- they were.
abbrev pub GoesTo : TableSeat → TableSeat → Pool → ℕ → List Seen → SeatState → Note → Type 0
GoesTo s t p m new x k =
    KnowsMoreOf m
    (λ w n. Made new x (part s.place.me.0 m) w × Sits s.number s.place.id p.limits w.state w × (w.popped ≡ popped_of s m) × (n ≡ k))
    s.place.me t.place.me

module _ (s t : TableSeat) (p : Pool) (m n : ℕ) (x : SeatState) where
  -- what the step tells of the seat's data
  pub told_depth : (did : StepsIn s.number s.place.id m p.limits x s.place.me n t.place.me)
      → DepthAt (stepped_by x s.number n (oldest did.3.popped)).seat.depth (stepped_by x s.number n (oldest did.3.popped)).seat.point
  told_depth did = subst (λ (z : SeatState). DepthAt z.depth z.point) did.3.state did.3.deep_now

  module _ (y : SeatState) (stays : StaysBy x y s.number n) where
    pub one_goes : Sits s.number s.place.id p.limits x (part s.place.me.0 m) → StepsIn s.number s.place.id m p.limits x s.place.me n t.place.me → GoesTo s t p m (seen x.point n ∷ []) y (note_of s m)
    one_goes sits did = (
      did.0,
      note_after x did.0 (note_of s m),
      did.1,
      (
        record {
          trail = did.3.trail;
          state = did.3.state ∙ stays.leads (oldest did.3.popped) (told_depth did);
          run = goes_on s.number s.place.id p.limits x did.0.state (part s.place.me.0 m) did.0 n sits did.2 did.3;
        },
        did.2,
        did.3.listed ∙ stays.list did.3.popped ∙ did.3.had stays.carries,
        carried_step x did.0 (note_of s m) stays.carries stays.plain,
      ),
    )

    -- the first step of a call, of a seat that held the mutex this many times
    pub start_goes : (d : ℕ) (call : Call) → Sits s.number s.place.id p.limits (state_at s.place.me.0 m d) (part s.place.me.0 m) → begun_at s.place.me.0 m d p.limits call ≡ x → StartsAtIn s t p m d call n
        → GoesTo s t p m (seen x.point n ∷ []) y (note_of s m)
    start_goes d call now begun did =
        one_goes (subst (λ (z : SeatState). Sits s.number s.place.id p.limits z (part s.place.me.0 m)) begun (sits_after_begin s.number s.place.id p.limits (state_at s.place.me.0 m d) (part s.place.me.0 m) now call))
        (subst (λ (z : SeatState). StepsIn s.number s.place.id m p.limits z s.place.me n t.place.me) begun did)

-- More after such steps

module _ (s t u : TableSeat) (p : Pool) (m : ℕ) (here : m < length s.place.me.0.parts) (new : List Seen) (x : SeatState) (k : Note) (first : GoesTo s t p m new x k) where
  now : part t.place.me.0 m ≡ first.0
  now = part_now s.number s.place.id m p.limits s.place.me t.place.me t.place.me here first.0 first.1 first.2

  pub state_goes : state_of t m ≡ x
  state_goes = ap (λ (v : View ⊤). v.state) now ∙ first.3.0.state

  pub list_goes : popped_of t m ≡ popped_of s m
  list_goes = ap (λ (v : View ⊤). v.popped) now ∙ first.3.2

  pub note_goes : note_of t m ≡ k
  note_goes = note_now s.number s.place.id m p.limits s.place.me t.place.me t.place.me here first.0 first.1 first.2 ∙ first.3.3

  pub access_goes : (seats : ℕ) (access : Access) → IsPlainAccessOf seats t.number x access → IsPlainAccessOf seats t.number (state_of t m) access
  access_goes seats access is = subst (λ (z : SeatState). IsPlainAccessOf seats t.number z access) (sym state_goes) is

  -- the seat has stored a number in the carried word
  pub stored : (note : Note) → NotesIn t u m note → GoesTo s u p m new x note
  stored note notes = (
    first.0,
    note,
    both s.number s.place.id m p.limits s.place.me t.place.me u.place.me here first.0 (part t.place.me.0 m) first.1 note first.2 notes
        ∙ ap (λ (v : View ⊤). (with_part s.place.me.0 m v note, s.place.me.1)) now,
    (first.3.0, first.3.1, first.3.2, refl),
  )

  -- it has made one more step
  module _ (n : ℕ) (y : SeatState) (stays : StaysBy x y t.number n) (same : SameSeat s t) (sits : SitsIn t p m) (did : MovesIn t u p m n) where
    second : GoesTo t u p m (seen x.point n ∷ []) y (note_of t m)
    second = one_goes t u p m n x y stays (subst (λ (z : SeatState). Sits t.number t.place.id p.limits z (part t.place.me.0 m)) state_goes sits)
        (subst (λ (z : SeatState). StepsIn t.number t.place.id m p.limits z t.place.me n u.place.me) state_goes did)

    pub moved : GoesTo s u p m (new ++ seen x.point n ∷ []) y k
    moved = (
      second.0,
      second.1,
      both s.number s.place.id m p.limits s.place.me t.place.me u.place.me here first.0 second.0 first.1 second.1 first.2 second.2,
      (
        record {
          trail = second.3.0.trail ∙ (ap (λ (v : View ⊤). v.trail ++ seen x.point n ∷ []) now ∙ (ap (λ (l : List Seen). l ++ seen x.point n ∷ []) first.3.0.trail ∙ append_assoc (part s.place.me.0 m).trail new (seen x.point n ∷ [])));
          state = second.3.0.state;
          run = run_next first.3.0.run (subst (λ (v : View ⊤). RunGoesOn v second.0) now second.3.0.run);
        },
        subst (λ (z : ℕ × ℕ). Sits z.0 z.1 p.limits second.0.state second.0) (λ i. (same.number i, same.id i)) second.3.1,
        second.3.2 ∙ list_goes,
        second.3.3 ∙ note_goes,
      ),
    )

  -- the seat rests, and holds the mutex this many times
  pub deepened : (steps : ℕ → List Seen → Type 0) (depth : ℕ) → steps s.number new → x ≡ made_of depth (state_of s m).takes (state_of s m).posts Rest → (state_of s m).point ≡ Rest → depth ≤ max_depth
      → k ≡ deep (depth - 1) (popped_of s m) → DeepensBy steps s t p m depth
  deepened steps depth did is rests most noted = (
    first.0,
    first.1,
    first.2,
    (
      (
        new,
        did,
        record {
          trail = first.3.0.trail;
          state = first.3.0.state ∙ is ∙ (λ i. made_of depth (state_of s m).takes (state_of s m).posts (sym rests i));
          run = first.3.0.run;
        },
      ),
      record {
        sits = first.3.1;
        now = subst (λ (n : ℕ). Sits s.number s.place.id p.limits (record first.0.state { depth = n }) first.0) (ap (λ (z : SeatState). z.depth) (first.3.0.state ∙ is)) first.3.1;
        rests = ap (λ (z : SeatState). z.point) (first.3.0.state ∙ is);
        most = most;
        noted = λ above. first.3.3 ∙ noted ∙ ap (deep (depth - 1)) (sym first.3.2);
      },
    ),
  )

-- the seat may go on after it has stored a number in the carried word
pub may_noted : (s t : TableSeat) (p : Pool) (m : ℕ) (note : Note) → MayStepIn s p m → SameSeat s t → NotesIn s t m note → MayStepIn t p m
may_noted s t p m note may same notes = may_then s t p m may same (part s.place.me.0 m, note, notes, may.sits)
