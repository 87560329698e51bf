-- What a step requires of its seat, and what its parts do in plain memory.
use Rattle.std.specs.Prelude.{◌≡◌, ℕ, ◌+◌, ◌*◌, ◌≤◌, List, [], ◌∷◌, Option, Some, None, Bool, true, false}
use Rattle.atomic_table.specs.Table.{Me, rest}
use Rattle.lfm_words.specs.declared.pop_lists.Record.{Record}
use Rattle.lfm_words.specs.Popped.{oldest}
use Rattle.lfm_protocol.specs.declared.answers.Turn.{Turn}
use Rattle.lfm_protocol.specs.declared.answers.Turn.TheVariants.{Refused}
use Rattle.lfm_protocol.specs.declared.answers.Why.TheVariants.{Idle}
use Rattle.lfm_protocol.specs.declared.kinds.Kind.{Kind}
use Rattle.lfm_protocol.specs.declared.points.Point.{Point}
use Rattle.lfm_protocol.specs.declared.points.Point.TheVariants.{SendWakeStore, ReleaseOwnerStore, ReleaseCountSubtract, ReleaseHandoffStore, GrantWakeStore}
use Rattle.lfm_protocol.specs.declared.points.Releaser.{Releaser}
use Rattle.lfm_protocol.specs.declared.seats.SeatState.{SeatState}
use Rattle.lfm_protocol.specs.After.{drops_oldest, loaded}
use Rattle.lfm_protocol.specs.Limits.{max_seats}
use Rattle.lfm_laws.specs.table.Carried.{carries_value}
use Rattle.lfm_protocol.specs.Points.{kind, target}
use Rattle.lfm_laws.specs.table.Ready.{IsReady}
use Rattle.lfm_laws.specs.table.Words.{stepped_by, popped_by_step, popped_if, link_of}
use Rattle.lfm_table.specs.declared.seat_view.Role.TheVariants.{User}
use Rattle.lfm_table.specs.declared.seat_view.View.{View}
use Rattle.lfm_table.specs.declared.rule.Moving.{Moving}
pub use Rattle.lfm_table.specs.Actions.{stores}
use Rattle.lfm_table.specs.Rule.{value_in, Advanced}
use Rattle.lfm_table.specs.Settled.{Became}

-- a step at this point may give the value away
abbrev pub gives_at : Point → Bool
gives_at (ReleaseCountSubtract releaser) = true
gives_at (ReleaseHandoffStore releaser) = true
gives_at (GrantWakeStore carrier oldest) = true
gives_at (SendWakeStore t) = true
gives_at _ = false

module _ {T : Type 0} (follows : ℕ → T → T → Type 0) (suits : T → ℕ → Type 0) where
  -- the value in hand may be left after the value that was found
  abbrev pub MayBeLeft : Option (Moving T) → View T → Type 0
  MayBeLeft a v = (x : Moving T) → a ≡ Some x → suits x.value v.answered × ((y : T) → v.found ≡ Some y → follows v.number y x.value)

  -- what a seat must have in hand if its step gives the value away or ends a hold
  pub record Ready (p : SeatState) (a : Option T) (me : Me (Option (Moving T)) (View T)) : Type 0 where
    pub empty : carries_value p ≡ false → me.1 ≡ []
    pub loaded : (n : ℕ) (o : Option Record) → carries_value p ≡ true → carries_value (stepped_by p me.0.number n o).seat ≡ false
        → (x : Moving T) × (me.1 ≡ (0, Some x) ∷ []) × (me.0.found ≡ Some x.value) × (x.popped.records ≡ popped_by_step p me.0.number n me.0.popped) × (x.popped.room ≡ me.0.limits.seats)
    pub leaves : (r : Releaser) → p.point ≡ ReleaseOwnerStore r → carries_value p ≡ true
        → (x : T) × (a ≡ Some x) × suits x me.0.answered × ((y : T) → me.0.found ≡ Some y → follows me.0.number y x)

  -- a seat whose data are p and which has the value a in its own memory can make its step, at a table of this many words
  pub record CanMake (p : SeatState) (a : Option T) (number seats words : ℕ) (me : Me (Option (Moving T)) (View T)) : Type 0 where
    pub user : me.0.role ≡ User
    pub named : me.0.number ≡ number
    pub seats_are : me.0.limits.seats ≡ seats
    pub wide : 4 + 2 * seats ≡ words
    pub few : seats ≤ max_seats
    pub became : Became me.0.state me.0.limits p
    pub ready : IsReady seats number p
    pub hand : Ready p a me

-- The parts of a step in plain memory

-- what is in hand after the oldest record has been taken out of the pop list, if the step takes it
abbrev pub dropped : {T : Type 0} → SeatState → Option (Moving T) → Option (Moving T)
dropped p (Some x) = Some (record x { popped = record x.popped { records = popped_if (drops_oldest p) x.popped.records } })
dropped p None = None

-- what stays in hand, and what is in the slot, if the value is put there
abbrev pub kept_out : {T : Type 0} → Bool → Option (Moving T) → Option (Moving T)
kept_out true a = None
kept_out false a = a

abbrev pub put_in : {T : Type 0} → Bool → Option (Moving T) → List (ℕ × Option (Moving T)) → List (ℕ × Option (Moving T))
put_in true a slots = (0, a) ∷ rest slots
put_in false a slots = slots

abbrev pub add_by : Option Kind → ℕ → ℕ → List Record → List Record
add_by (Some Kind.LinkLoad) t n l = loaded t (link_of n) ∷ l
add_by _ t n l = l

-- what is in hand after a record that was loaded was added to the pop list
abbrev pub with_record : {T : Type 0} → SeatState → ℕ → ℕ → Option (Moving T) → Option (Moving T)
with_record p s n (Some x) = Some (record x { popped = record x.popped { records = add_by (kind p.point) (target p.point s) n x.popped.records } })
with_record p s n None = None

-- the value is taken out of the slot if the seat carries it and does not have it in hand
abbrev pub Took : {T : Type 0} → Bool → Bool → Option (Moving T) → Me (Option (Moving T)) (View T) → Option (Moving T) → Me (Option (Moving T)) (View T) → Type 0
Took true b a m a' m' = (a' ≡ a) × (m' ≡ m)
Took false false a m a' m' = (a' ≡ a) × (m' ≡ m)
Took false true a m a' m' = (m.1 ≡ (0, a') ∷ rest m.1) × (m' ≡ (m.0, (0, None) ∷ rest m.1))

abbrev pub oldest_in : {T : Type 0} → Option (Moving T) → Option Record
oldest_in (Some x) = oldest x.popped.records
oldest_in None = None

-- what happens to the value in hand
abbrev pub ValueGoes : {T : Type 0} → Bool → Bool → Option (Moving T) → Option (Moving T) → View T → Type 0
ValueGoes {T} false false a a' v = (a ≡ None) × (a' ≡ None)
ValueGoes {T} false true a a' v = (a ≡ None) × ((x : Moving T) × (a' ≡ Some x) × (v.found ≡ Some x.value))
ValueGoes {T} true false a a' v = a' ≡ None
ValueGoes {T} true true a a' v = (x : Moving T) × (value_in a ≡ Some x.value) × (a' ≡ Some x)

-- one event of the core, made by a seat whose data are p, which has a in hand and whose view is v
pub record Event {T : Type 0} (follows : ℕ → T → T → Type 0) (suits : T → ℕ → Type 0) (p : SeatState) (a : Option (Moving T)) (v : View T) (turn : Turn) (p' : SeatState) (a' : Option (Moving T)) (v' : View T) : Type 0 where
  pub found : ℕ
  pub hand : Option T
  pub slots : List (ℕ × Option (Moving T))
  pub slots_after : List (ℕ × Option (Moving T))
  pub did : Advanced follows suits p hand (v, slots) found (v', slots_after)
  pub seat_is : p' ≡ (stepped_by p v.number found (oldest did.popped)).seat
  pub turn_is : turn ≡ (stepped_by p v.number found (oldest did.popped)).turn
  pub value : ValueGoes (carries_value p) (carries_value p') a a' v'
  pub in_hand : (r : Releaser) → p.point ≡ ReleaseOwnerStore r → hand ≡ value_in a

-- the result of a step; it is refused as Idle if no call is open
abbrev pub StepLeadsTo : {T : Type 0} → Option Kind → (ℕ → T → T → Type 0) → (T → ℕ → Type 0) → SeatState → Option (Moving T) → Me (Option (Moving T)) (View T) → Turn → SeatState → Option (Moving T) → Me (Option (Moving T)) (View T) → Type 0
StepLeadsTo None follows suits p a m turn p' a' m' = (turn ≡ Refused Idle) × (p' ≡ p) × (a' ≡ a) × (m' ≡ m)
StepLeadsTo (Some k) follows suits p a m turn p' a' m' = Event follows suits p a m.0 turn p' a' m'.0
