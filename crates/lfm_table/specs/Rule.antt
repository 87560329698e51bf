-- The rule of the table, and what one step guarantees.
use Rattle.std.specs.Prelude.{◌≡◌, ◌≢◌, ⊤, ℕ, ◌+◌, ◌<◌, ◌≤◌, List, [], ◌∷◌, ◌++◌, length, Option, Some, None, Bool, true, false}
use mathlib.Core.Option.{some}
use mathlib.Core.Option as maybe
use lib.ListN.{get_elem?}
use Rattle.atomic_table.specs.Table.{State, Me}
use Rattle.lfm_model.specs.declared.answers.How.{How}
use Rattle.lfm_words.specs.declared.links.Link.{Link}
use Rattle.lfm_words.specs.declared.pop_lists.Record.{Record}
use Rattle.lfm_words.specs.Popped.{oldest}
use Rattle.lfm_protocol.specs.declared.kinds.Kind.{Kind}
use Rattle.lfm_protocol.specs.declared.limits.Limits.{Limits}
use Rattle.lfm_protocol.specs.declared.points.Carrier.{Carrier}
use Rattle.lfm_protocol.specs.declared.points.Entrant.{Entrant}
use Rattle.lfm_protocol.specs.declared.points.Point.{Point}
use Rattle.lfm_protocol.specs.declared.points.Point.TheVariants.{Rest, TryOwnerLoad, PushExchange, ReleaseOwnerStore, TakeLinkLoad, EnterOwnerStore}
use Rattle.lfm_protocol.specs.declared.points.Pusher.{Pusher}
use Rattle.lfm_protocol.specs.declared.seats.SeatState.{SeatState}
use Rattle.lfm_laws.specs.table.Carried.{carries_value}
use Rattle.lfm_protocol.specs.Core.{Core, limits}
use Rattle.lfm_laws.specs.laws.Events.{answered_by}
use Rattle.lfm_laws.specs.steady.Ghost.{Ghost}
use Rattle.lfm_protocol.specs.Points.{kind}
use Rattle.lfm_laws.specs.table.Ready.{IsReady}
use Rattle.lfm_protocol.specs.Room.{PopFits}
use Rattle.lfm_protocol.specs.Seats.{seat, absent}
use Rattle.lfm_laws.specs.steady.Steady.{DepthAt, IsSeen, Fits}
use Rattle.lfm_laws.specs.table.Words.{words, stepped_by, popped_by_step, link_of, AreNarrow}
use Rattle.lfm_table.specs.declared.seat_view.Action.{Action}
use Rattle.lfm_table.specs.declared.seat_view.Action.TheVariants.{LoadsOwner}
use Rattle.lfm_table.specs.declared.seat_view.Role.{Role}
use Rattle.lfm_table.specs.declared.seat_view.Role.TheVariants.{User, Retired}
use Rattle.lfm_table.specs.declared.seat_view.Joined.{Joined}
use Rattle.lfm_table.specs.declared.seat_view.View.{View}
use Rattle.lfm_table.specs.declared.rule.Moving.{Moving}
pub use Rattle.lfm_table.specs.Actions.{seen}
use Rattle.lfm_table.specs.Actions.{AreInLimits, HasRunWithin, RunGoesOnBy, begins_and_step}
use Rattle.lfm_table.specs.Reach.{Reached}

-- Views

-- seat 1 when the table opens
abbrev pub first_view : {T : Type 0} → Limits → T → View T
first_view l x =
    record {
      role = User;
      number = 1;
      limits = l;
      state = absent;
      trail = [];
      actions = [];
      last = Some x;
      last_found = None;
      ended = 0;
      found = None;
      holds_ended = 0;
      popped = [];
      answered = 0;
      opening = Some x;
      made = 0;
      joined = [];
    }

-- seat 1 after it has split one more seat off
abbrev pub with_split : {T : Type 0} → View T → View T
with_split v = record v { made = v.made + 1 }

-- the seat that is split off
abbrev pub split_view : {T : Type 0} → View T → View T
split_view v =
    record {
      role = User;
      number = v.made + 2;
      limits = v.limits;
      state = absent;
      trail = [];
      actions = [];
      last = v.opening;
      last_found = None;
      ended = 0;
      found = None;
      holds_ended = 0;
      popped = [];
      answered = 0;
      opening = v.opening;
      made = 0;
      joined = [];
    }

abbrev pub joined_of : {T : Type 0} → View T → Joined T
joined_of w = record { number = w.number; last = w.last; found = w.last_found; ended = w.ended; trail = w.trail; actions = w.actions }

-- v after it has joined w
abbrev pub with_joined : {T : Type 0} → View T → View T → View T
with_joined v w = record v { joined = v.joined ++ joined_of w ∷ [] }

-- a seat that was joined
abbrev pub joined : {T : Type 0} → View T → View T
joined v = record v { role = Retired }

abbrev pub no_view : {T : Type 0} → View T
no_view =
    record {
      role = Retired;
      number = 0;
      limits = record { seats = 0; budget = 0 };
      state = absent;
      trail = [];
      actions = [];
      last = None;
      last_found = None;
      ended = 0;
      found = None;
      holds_ended = 0;
      popped = [];
      answered = 0;
      opening = None;
      made = 0;
      joined = [];
    }

abbrev pub retired_at : Role → ℕ
retired_at Retired = 1
retired_at _ = 0

abbrev pub retired : {T : Type 0} → View T → ℕ
retired v = retired_at v.role

abbrev pub sum_over : {A : Type 0} → (A → ℕ) → List A → ℕ
sum_over f [] = 0
sum_over f (x ∷ xs) = f x + sum_over f xs

-- what the view k of seat 1 states of all views
pub record Roots {T : Type 0} (views : List (View T)) (k : View T) : Type 0 where
  pub user : k.role ≡ User
  pub made : length views ≡ k.made + 1
  pub back : sum_over retired views ≡ length k.joined
  pub kept : (i : ℕ) (g : Joined T) → get_elem? k.joined i ≡ some g → (j : ℕ) × (z : View T) × (get_elem? views j ≡ some z) × (z.role ≡ Retired) × (z.number ≡ g.number) × (z.last ≡ g.last) × (z.last_found ≡ g.found) × (z.ended ≡ g.ended) × (z.trail ≡ g.trail) × (z.actions ≡ g.actions)
  pub gone : (j : ℕ) (z : View T) → get_elem? views j ≡ some z → z.role ≡ Retired → (i : ℕ) × (get_elem? k.joined i ≡ some (joined_of z))

-- no seat has ended a hold
abbrev pub NoneEnded : {T : Type 0} → List (View T) → Type 0
NoneEnded {T} views = (j : ℕ) (v : View T) → get_elem? views j ≡ some v → v.last_found ≡ None

-- If n holds have ended, the last of them left this value. If none has, it is the opening value, which each seat has as its
-- last.
abbrev pub LeftIn : {T : Type 0} → List (View T) → ℕ → T → Type 0
LeftIn {T} views n w = (j : ℕ) × (v : View T) × (get_elem? views j ≡ some v) × (v.last ≡ Some w) × (v.last_found ≡ None → NoneEnded views) × (v.ended ≡ n)

-- The numbers of the holds that the seats ended last, if n have ended
-- within: none is greater than n
-- greatest: one of them is n, unless n is 0
-- differ: no two seats have the same number above 0
-- opens: a seat that has ended no hold has the opening value as its last
pub record AreNumbered {T : Type 0} (views : List (View T)) (n : ℕ) : Type 0 where
  pub within : (j : ℕ) (v : View T) → get_elem? views j ≡ some v → v.ended ≤ n
  pub greatest : 0 < n → (j : ℕ) × (v : View T) × (get_elem? views j ≡ some v) × (v.ended ≡ n)
  pub differ : (i j : ℕ) (u v : View T) → get_elem? views i ≡ some u → get_elem? views j ≡ some v → 0 < u.ended → u.ended ≡ v.ended → i ≡ j
  pub opens : (k : View T) (j : ℕ) (v : View T) → get_elem? views 0 ≡ some k → get_elem? views j ≡ some v → v.ended ≡ 0 → v.last ≡ k.opening

-- The moving value

abbrev pub value_in : {T : Type 0} → Option (Moving T) → Option T
value_in (Some x) = Some x.value
value_in None = None

abbrev pub put_value : {T : Type 0} → Option (Moving T) → T → Option (Moving T)
put_value (Some x) w = Some (record x { value = w })
put_value None w = None

abbrev pub is_carried : {S : Type 0} → Option S → Bool
is_carried (Some x) = true
is_carried None = false

-- the slots that a seat has at the table between its steps
abbrev pub in_hand : {S : Type 0} → Bool → List (ℕ × Option S)
in_hand true = (0, None) ∷ []
in_hand false = []

-- what is recorded of a hold after a step at this point: only the store that ends a hold changes it
abbrev pub left_by : {A : Type 0} → Point → A → A → A
left_by (ReleaseOwnerStore releaser) new old = new
left_by _ new old = old

-- the hold that a seat ended last: the value that it left, the value that it had found, the limits of its table, and the number
-- of that hold
abbrev pub LastHold : Type 0 → Type 0
LastHold T = Option T × Option T × Limits × ℕ

abbrev pub last_hold : {T : Type 0} → View T → LastHold T
last_hold v = (v.last, v.last_found, v.limits, v.ended)

-- The rule

-- A seat that releases or sends has no record of its own. So the pop list has no record of it, and the record that is loaded
-- next isn't its own.
abbrev pub CollectsWithin : ℕ → ℕ → Point → Type 0
CollectsWithin popped seats (TakeLinkLoad (Carrier.Releaser releaser) next) = popped + 2 ≤ seats
CollectsWithin popped seats (TakeLinkLoad (Carrier.Reclaimer releaser) next) = popped + 2 ≤ seats
CollectsWithin popped seats (TakeLinkLoad Carrier.Sender next) = popped + 2 ≤ seats
CollectsWithin popped seats _ = ⊤

-- how the view at place j agrees with the state
pub record Sits {T : Type 0} (c : Core) (j : ℕ) (v : View T) : Type 0 where
  pub number : v.number ≡ j + 1
  pub limits_are : v.limits ≡ limits c
  pub state : seat c.seats (j + 1) ≡ v.state

module _ {T : Type 0} (follows : ℕ → T → T → Type 0) where
  -- the last value of each of the seats that are selected leads to this value
  abbrev pub LeadsToValue : (ℕ → Type 0) → List (View T) → T → Type 0
  LeadsToValue which views w = (j : ℕ) (v : View T) (l : T) → get_elem? views j ≡ some v → which j → v.last ≡ Some l → Reached follows v.limits.seats (j + 1) l w

  -- the same for the seats that do not exist yet, whose last value is the opening value
  abbrev pub Awaits : List (View T) → T → Type 0
  Awaits views w = (j : ℕ) (k : View T) (l : T) → length views ≤ j → get_elem? views 0 ≡ some k → k.opening ≡ Some l → Reached follows k.limits.seats (j + 1) l w

-- what no step of a seat changes
pub record SameRoot {T : Type 0} (v w : View T) : Type 0 where
  pub number : w.number ≡ v.number
  pub limits_are : w.limits ≡ v.limits
  pub opening : w.opening ≡ v.opening
  pub made : w.made ≡ v.made
  pub joined_are : w.joined ≡ v.joined

module _ {T : Type 0} (follows : ℕ → T → T → Type 0) (suits : T → ℕ → Type 0) where
  abbrev pub Mine : Type 0
  Mine = Me (Option (Moving T)) (View T)

  -- the value is in its slot, and n holds have ended
  pub record AtHome (c : Core) (g : Ghost) (n : ℕ) (homes : List (maybe.Option (Option (Moving T)))) (views : List (View T)) : Type 0 where
    pub value : Moving T
    pub here : get_elem? homes 0 ≡ some (some (Some value))
    pub records : value.popped.records ≡ c.popped
    pub room : value.popped.room ≡ length c.seats
    pub leads : LeadsToValue follows (λ _. ⊤) views value.value
    pub awaits : Awaits follows views value.value
    pub left : LeftIn views n value.value
    pub fits : suits value.value g.answered

  -- the seat at place j, whose view is v, carries the value, and n holds have ended
  pub record WithSeat (c : Core) (g : Ghost) (n : ℕ) (views : List (View T)) (j : ℕ) (v : View T) : Type 0 where
    pub value : T
    pub found : v.found ≡ Some value
    pub popped : v.popped ≡ c.popped
    pub answered : v.answered ≡ g.answered
    pub holds : v.holds_ended ≡ n
    pub leads : LeadsToValue follows (λ i. i ≢ j) views value
    pub awaits : Awaits follows views value
    pub shallow : v.state.depth ≡ 0 → suits value v.answered × ((l : T) → v.last ≡ Some l → Reached follows v.limits.seats (j + 1) l value)
    pub left : v.state.depth ≡ 0 → LeftIn views n value

  -- the words and views are those of a steady state of the core, which a run from its start has reached, and the value is where
  -- the core requires; the limits are of this kind
  pub record HeldWithin (Allowed : Limits → Type 0) (s : State (Option (Moving T)) (View T)) : Type 0 where
    pub core : Core
    pub ghost_state : Ghost
    pub holds_ended : ℕ
    pub fits : Fits core ghost_state
    pub narrow : AreNarrow core.seats
    pub words_are : s.words ≡ words core
    pub deep : length s.homes ≡ 1
    pub few : length s.views ≤ length core.seats
    pub each : (j : ℕ) (v : View T) → get_elem? s.views j ≡ some v → Sits core j v
    pub later : (j : ℕ) → length s.views ≤ j → seat core.seats (j + 1) ≡ absent
    pub home : ((t : ℕ) → carries_value (seat core.seats t) ≡ false) → AtHome core ghost_state holds_ended s.homes s.views
    pub outside : (j : ℕ) (v : View T) → get_elem? s.views j ≡ some v → carries_value v.state ≡ true → WithSeat core ghost_state holds_ended s.views j v
    pub numbered : AreNumbered s.views holds_ended
    pub root : (k : View T) → get_elem? s.views 0 ≡ some k → Roots s.views k
    pub others : (j : ℕ) (v : View T) → get_elem? s.views j ≡ some v → v.role ≡ Retired → (v.state.point ≡ Rest) × (v.state.depth ≡ 0)
    pub opened : Limits
    pub actions : List Action
    pub run : HasRunWithin Allowed opened actions core s.views

  -- the rule of the table of a mutex
  abbrev pub Held : State (Option (Moving T)) (View T) → Type 0
  Held = HeldWithin AreInLimits

  -- what a step does with the slot and with the record of the value, by whether its seat carries it before and after
  abbrev pub Hands : Bool → Bool → Point → Option T → List Record → Mine → Mine → Type 0
  Hands false false q a popped m m' = m'.1 ≡ m.1
  Hands false true q a popped m m' =
      (x : Moving T) × (m'.1 ≡ (0, Some x) ∷ []) × (x.popped.records ≡ popped) × (x.popped.room ≡ m.0.limits.seats) × (m'.0.found ≡ Some x.value)
  Hands true false q a popped m m' = m'.1 ≡ []
  Hands true true q a popped m m' = (m'.1 ≡ m.1) × (m'.0.found ≡ left_by q a m.0.found)

  -- What a carrier at depth 0 knows of the value: if no hold has ended after its own last one, the value is the one that it
  -- left then.
  abbrev pub Knows : View T → Type 0
  Knows v =
      (y : T) → v.found ≡ Some y → suits y v.answered × ((l : T) → v.last ≡ Some l → Reached follows v.limits.seats v.number l y) × (v.ended ≤ v.holds_ended) × (v.ended ≡ v.holds_ended → v.last ≡ Some y)

  -- a push exchange that fails has found a later push word
  abbrev pub SeesChange : Point → ℕ → Type 0
  SeesChange q n = (pusher : Pusher) (old : Link) → q ≡ PushExchange pusher old → IsSeen (link_of n) old

  -- one step of a seat whose plain data are p and which has the value a in hand: the step found n, and the pop list before it
  -- was this
  pub record Advanced (p : SeatState) (a : Option T) (m : Mine) (n : ℕ) (m' : Mine) : Type 0 where
    pub popped : List Record
    pub role : m'.0.role ≡ m.0.role
    pub root : SameRoot m.0 m'.0
    pub state : m'.0.state ≡ (stepped_by p m.0.number n (oldest popped)).seat
    pub trail : m'.0.trail ≡ m.0.trail ++ seen p.point n ∷ []
    pub run : RunGoesOnBy (begins_and_step m.0.number m.0.state p) m.0 m'.0
    pub last : m'.0.last ≡ left_by p.point a m.0.last
    pub last_found : m'.0.last_found ≡ left_by p.point m.0.found m.0.last_found
    pub ended : m'.0.ended ≡ left_by p.point (m.0.holds_ended + 1) m.0.ended
    pub holds : carries_value p ≡ true → m'.0.holds_ended ≡ left_by p.point (m.0.holds_ended + 1) m.0.holds_ended
    pub listed : m'.0.popped ≡ popped_by_step p m.0.number n popped
    pub had : carries_value p ≡ true → popped ≡ m.0.popped
    pub deep : DepthAt p.depth p.point
    pub answered : carries_value p ≡ true → m'.0.answered ≡ m.0.answered + length (answered_by m.0.number (stepped_by p m.0.number n (oldest popped)).turn)
    pub ready : IsReady m.0.limits.seats m.0.number (stepped_by p m.0.number n (oldest popped)).seat
    pub room : PopFits (length popped) m.0.limits.seats (kind p.point)
    pub collects : CollectsWithin (length popped) m.0.limits.seats p.point
    pub shallow : carries_value p ≡ true → p.depth ≡ 0 → Knows m.0
    pub stamped : (entrant : Entrant) (stamp : ℕ) → p.point ≡ EnterOwnerStore entrant (How.Queued stamp) → m.0.answered + 1 ≡ stamp
    pub owner : kind p.point ≡ Some Kind.OwnerLoad → (n ≡ m.0.number → 0 < p.depth) × (0 < p.depth → n ≡ m.0.number)
    pub sees : SeesChange p.point n
    pub hands : Hands (carries_value p) (carries_value (stepped_by p m.0.number n (oldest popped)).seat) p.point a popped m m'

-- a load of the owner word that is no step of a call; it changes only the trail and the actions
abbrev pub ReadsOwner : {T : Type 0} → Me (Option (Moving T)) (View T) → ℕ → Me (Option (Moving T)) (View T) → Type 0
ReadsOwner m n m' =
    (m' ≡ (record m.0 { trail = m.0.trail ++ seen TryOwnerLoad n ∷ []; actions = m'.0.actions }, m.1)) × (0 < m.0.number) × (n ≡ m.0.number → 0 < m.0.state.depth) × (0 < m.0.state.depth → n ≡ m.0.number)
    × RunGoesOnBy (LoadsOwner m.0.number ∷ []) m.0 m'.0
