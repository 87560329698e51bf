-- What keeps a mutex from being closed, and what a close returns. A is the type in which a caller keeps a seat; `look` gives
-- the sight of that seat.
use Rattle.std.specs.Prelude.{◌≡◌, ◌≢◌, ◌⊎◌, ℕ, ◌<◌, ◌≤◌, List, [], true, false, Some, None}
use mathlib.Core.Option.{some}
use lib.ListN.{get_elem?}
use Rattle.lfm_model.specs.declared.refusals.Missing.{Missing}
use Rattle.lfm_model.specs.declared.refusals.Missing.TheVariants.{NotBack, Holding, Asleep}
use Rattle.lfm_protocol.specs.declared.limits.Limits.{Limits}
use Rattle.lfm_protocol.specs.Core.{Core}
use Rattle.lfm_protocol.specs.Limits.{are_in_limits}
use Rattle.lfm_protocol.specs.Seats.{unposted}
use Rattle.lfm_protocol.specs.Step.{start}
use Rattle.lfm_laws.specs.laws.Schedules.{reached}
use Rattle.lfm_table.specs.declared.seat_view.Action.{Action}
use Rattle.lfm_table.specs.Actions.{KnowsRun, events_of, own_of, part_of}
use Rattle.lfm_laws.specs.table.Words.{words}
use Rattle.lfm_mutex.specs.calls.Sight.{Sight}

-- the seat that it names
abbrev pub named : Missing → ℕ
named (NotBack k) = k
named (Holding k) = k
named (Asleep k) = k

-- a seat that neither holds nor sleeps, and has no call open
abbrev pub Idle : {T : Type 0} → Sight T → Type 0
Idle s = (s.depth ≡ 0) × (s.asleep ≡ false)

-- why this seat can't be joined: it holds, or it doesn't hold and sleeps. A seat that is there never gives NotBack
abbrev pub Hinders : {T : Type 0} → Missing → Sight T → Type 0
Hinders (NotBack k) s = ⊥
Hinders (Holding k) s = (s.number ≡ k) × (0 < s.depth)
Hinders (Asleep k) s = (s.number ≡ k) × (s.depth ≡ 0) × (s.asleep ≡ true)

module _ {A : Type 0} {T : Type 0} (look : A → Sight T) (seats : List A) where
  abbrev pub NoneHasHeld : Type 0
  NoneHasHeld = (i : ℕ) (s : A) → get_elem? seats i ≡ some s → (look s).found ≡ None

  -- A seat that has held left this value last. If no seat has held, it is the opening value, which each seat has as its last.
  abbrev pub LeftLast : T → Type 0
  LeftLast v = (i : ℕ) × (s : A) × (get_elem? seats i ≡ some s) × ((look s).last ≡ Some v) × ((look s).found ≡ None → NoneHasHeld)

  -- this seat ended the last hold of all, and left this value with it
  abbrev pub EndedLast : T → Type 0
  EndedLast v =
      (i : ℕ) × (s : A) × (get_elem? seats i ≡ some s) × ((look s).last ≡ Some v) × (0 < (look s).ended) × ((j : ℕ) (t : A) → get_elem? seats j ≡ some t → (look t).number ≢ (look s).number → (look t).ended < (look s).ended)

  -- no seat has ended a hold, and each has this value as its last, which is the opening value
  abbrev pub NoneHasEnded : T → Type 0
  NoneHasEnded v = (j : ℕ) (t : A) → get_elem? seats j ≡ some t → ((look t).ended ≡ 0) × ((look t).last ≡ Some v)

  -- The last hold of all left this value. If no hold has ended, it is the opening value.
  abbrev pub LeftByLastHold : T → Type 0
  LeftByLastHold v = EndedLast v ⊎ NoneHasEnded v

  abbrev pub Lacks : ℕ → Type 0
  Lacks k = (i : ℕ) (s : A) → get_elem? seats i ≡ some s → (look s).number ≢ k

  abbrev pub Has : ℕ → Type 0
  Has k = (i : ℕ) × (s : A) × (get_elem? seats i ≡ some s) × ((look s).number ≡ k)

  -- the seat k is back, and neither holds nor sleeps
  abbrev pub Stands : ℕ → Type 0
  Stands k = Has k × ((i : ℕ) (s : A) → get_elem? seats i ≡ some s → (look s).number ≡ k → Idle (look s))

  abbrev pub Hindered : Missing → Type 0
  Hindered (NotBack k) = Lacks k
  Hindered (Holding k) = (i : ℕ) × (s : A) × (get_elem? seats i ≡ some s) × Hinders (Holding k) (look s)
  Hindered (Asleep k) = (i : ℕ) × (s : A) × (get_elem? seats i ≡ some s) × Hinders (Asleep k) (look s)

  -- the first of the seats 1 to n that is not back, holds or sleeps
  abbrev pub FirstMissing : ℕ → Missing → Type 0
  FirstMissing n m = (0 < named m) × (named m ≤ n) × Hindered m × ((k : ℕ) → 0 < k → k < named m → Stands k)

  abbrev pub AllStand : ℕ → Type 0
  AllStand n = (k : ℕ) → 0 < k → k ≤ n → Stands k

-- the count is 0, nothing is posted and no seat is queued
pub record IsFree (c : Core) : Type 0 where
  pub count : c.count ≡ 0
  pub handoff : c.handoff ≡ unposted
  pub pushed : c.push.next ≡ 0
  pub popped : c.popped ≡ []

-- these are the words of a mutex that is free
abbrev pub AreFree : List ℕ → Type 0
AreFree ws = (c : Core) × (ws ≡ words c) × IsFree c

module _ {A : Type 0} {T : Type 0} (look : A → Sight T) (past : A → List Action) (l : Limits) (seats : List A) where
  -- Some actions of these seats, and of no others, have led from the start with these limits to a free state. The trail of each
  -- seat is its part of them. `past` gives the actions that a seat knew: they are the run up to its own last step or load of
  -- the owner word, and all later actions are of others.
  pub record HaveRun : Type 0 where
    pub actions : List Action
    pub allowed : are_in_limits l.seats l.budget ≡ true
    pub free : IsFree (reached l (events_of actions))
    pub trails : (i : ℕ) (s : A) → get_elem? seats i ≡ some s → (look s).trail ≡ part_of (start l) (look s).number actions
    pub known : (i : ℕ) (s : A) → get_elem? seats i ≡ some s → KnowsRun l actions (look s).number (past s) (look s).trail
    pub others : (t : ℕ) → (t ≡ 0) ⊎ (l.seats < t) → part_of (start l) t actions ≡ []
    pub nobody_else : (t : ℕ) → (t ≡ 0) ⊎ (l.seats < t) → own_of t actions ≡ []
