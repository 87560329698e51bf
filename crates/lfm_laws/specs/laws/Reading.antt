-- The abstract mutex that a state stands for: its claims, the seats that ask, and the seats of the queue.
use Rattle.std.specs.Prelude.{◌≡◌, ◌≢◌, ℕ, true, false, ◌+◌, ◌<◌, Option, Some, None, List, map, length, if◌then◌else◌}
use Rattle.lfm_model.specs.Abstract.{AbstractMutex, AbstractPlace, Carrying, free, owner, passed, posted, carried, entering, leaving, serving}
use Rattle.lfm_model.specs.declared.answers.How.{How}
use Rattle.lfm_protocol.specs.declared.points.Entrant.{Entrant}
use Rattle.lfm_protocol.specs.declared.points.Point.{Point}
use Rattle.lfm_protocol.specs.declared.points.Point.TheVariants.{LockOwnerLoad, LockCountSubtract, TryCountAdd, SendWakeStore, ReleaseCountSubtract, ReleaseHandoffStore, TakeClearHead, TakeLinkLoad, GrantWakeStore, EnterOwnerStore, ReceiveWakeStore}
use Rattle.lfm_words.specs.declared.pop_lists.Record.{Record}
use Rattle.lfm_words.specs.declared.wakes.Wake.TheVariants.{Grant}
use Rattle.lfm_protocol.specs.Core.{Core}
use Rattle.lfm_laws.specs.laws.Errands.{Asks}
use Rattle.lfm_model.specs.Sums.{sum_to}
use Rattle.lfm_protocol.specs.Place.{has_loaded}
use Rattle.lfm_protocol.specs.Queue.{queue_of}
use Rattle.lfm_protocol.specs.Seats.{seat, wake}

abbrev pub carrying_to_enter : ℕ → Entrant → How → Carrying
carrying_to_enter s Entrant.Locker How.Free = entering s
carrying_to_enter s Entrant.Locker (How.Queued stamp) = serving
carrying_to_enter s Entrant.Trier how = entering s
carrying_to_enter s Entrant.Receiver how = entering s

-- what a call of seat s at this point does with the responsibility, if it has gained the responsibility and not passed it on
abbrev pub carrying_at : ℕ → Point → Option Carrying
carrying_at s TryCountAdd = Some (entering s)
carrying_at s (SendWakeStore t) = Some (entering t)
carrying_at s (ReceiveWakeStore stamp) = Some (entering s)
carrying_at s (EnterOwnerStore entrant how) = Some (carrying_to_enter s entrant how)
carrying_at s (ReleaseCountSubtract releaser) = Some leaving
carrying_at s (ReleaseHandoffStore releaser) = Some serving
carrying_at s (TakeClearHead carrier) = Some serving
carrying_at s (TakeLinkLoad carrier next) = Some serving
carrying_at s (GrantWakeStore carrier oldest) = Some serving
carrying_at s _ = None

-- a state claims that the responsibility is at this place: a seat has a depth, a handoff is posted, a wake word holds a grant
-- that its seat has not loaded, or a call carries
pub data Claims (c : Core) (p : AbstractPlace) : Type 0 where
  by_owner : (s : ℕ) → 0 < (seat c.seats s).depth → p ≡ owner s → Claims c p
  by_handoff : 0 < c.handoff.seat → p ≡ posted → Claims c p
  by_grant : (t stamp : ℕ) → wake c.wakes t ≡ Grant stamp → has_loaded (seat c.seats t).point ≡ false → p ≡ passed t → Claims c p
  by_call : (s : ℕ) (how : Carrying) → carrying_at s (seat c.seats s).point ≡ Some how → p ≡ carried s how → Claims c p

-- all claims of a state name this place; if there is no claim, the place is free
pub record ReadsPlace (c : Core) (p : AbstractPlace) : Type 0 where
  pub only : (q : AbstractPlace) → Claims c q → q ≡ p
  pub some : p ≢ free → Claims c p

-- the seats of a list of records
abbrev pub seats_of : List Record → List ℕ
seats_of records = map (λ r. r.seat) records

-- a state reads as this abstract mutex
pub record Reads (c : Core) (a : AbstractMutex) : Type 0 where
  pub place : ReadsPlace c a.place
  pub asks : (x : ℕ) → a.asking x ≡ true → Asks c x
  pub asked : (x : ℕ) → Asks c x → a.asking x ≡ true
  pub waiting : a.waiting ≡ seats_of (queue_of c)

-- The count equation

-- a call that enters has one unit of the count, except one that has accepted a handoff: its next step adds the unit
abbrev pub unit_of_entering : Point → ℕ
unit_of_entering TryCountAdd = 0
unit_of_entering _ = 1

abbrev pub unit_of_carrying : Point → Carrying → ℕ
unit_of_carrying p (entering x) = unit_of_entering p
unit_of_carrying p leaving = 1
unit_of_carrying p serving = 0

-- the unit of the count that belongs to the place
abbrev pub own_count : Core → AbstractPlace → ℕ
own_count c free = 0
own_count c (owner s) = 1
own_count c (passed s) = 1
own_count c posted = 0
own_count c (carried s how) = unit_of_carrying (seat c.seats s).point how

abbrev pub unit_of_recursion : Point → ℕ
unit_of_recursion LockOwnerLoad = 1
unit_of_recursion LockCountSubtract = 1
unit_of_recursion _ = 0

-- 1 while the owner's recursive lock is between its add and its subtract
abbrev pub again_count : Core → AbstractPlace → ℕ
again_count c (owner s) = unit_of_recursion (seat c.seats s).point
again_count c _ = 0

-- how many seats ask
abbrev pub asking_count : Core → AbstractMutex → ℕ
asking_count c a = sum_to (λ x. if a.asking x then 1 else 0) (length c.seats)

abbrev pub IsCounted : Core → AbstractMutex → Type 0
IsCounted c a = c.count ≡ asking_count c a + length a.waiting + own_count c a.place + again_count c a.place
