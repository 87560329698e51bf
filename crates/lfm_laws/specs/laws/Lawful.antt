-- What holds for every steady state, stated about its words and points.
use Rattle.std.specs.Prelude.{◌≡◌, ◌≢◌, ◌⊎◌, ⊤, ℕ, ◌+◌, ◌<◌, ◌≤◌, List, length, AllPairs, slice_index_or}
use Rattle.lfm_model.specs.Abstract.{AbstractMutex, AbstractPlace, owner}
use Rattle.lfm_protocol.specs.declared.points.Point.{Point}
use Rattle.lfm_protocol.specs.declared.points.Point.TheVariants.{Asleep, ReceiveWakeLoad, ReceiveWakeStore, SendWakeStore, SendPushRecheck, PushedHandoffLoad, PushedHandoffExchange, TryHandoffExchange}
use Rattle.lfm_protocol.specs.declared.points.Pusher.TheVariants as Pusher
use Rattle.lfm_protocol.specs.declared.points.Sleeper.TheVariants as Sleeper
use Rattle.lfm_protocol.specs.declared.seats.SeatState.{SeatState}
use Rattle.lfm_words.specs.declared.handoffs.Handoff.{Handoff}
use Rattle.lfm_words.specs.declared.pop_lists.Record.{Record}
use Rattle.lfm_words.specs.declared.wakes.Wake.TheVariants.{Waiting, Claimed, Grant}
use Rattle.lfm_protocol.specs.Core.{Core}
use Rattle.lfm_laws.specs.laws.Errands.{Asks, IsClaimedFor}
use Rattle.lfm_protocol.specs.Queue.{queue_of}
use Rattle.lfm_laws.specs.laws.Reading.{Reads, IsCounted}
use Rattle.lfm_protocol.specs.Seats.{seat, wake, unposted, IsSeat}
use Rattle.lfm_laws.specs.laws.Watched.{IsQueued, Watched}

abbrev pub owning_seat : AbstractPlace → ℕ
owning_seat (owner s) = s
owning_seat _ = 0

-- the stamps of a list of records are consecutive, and the last is this one
abbrev pub EndsAt : ℕ → List Record → Type 0
EndsAt last records =
    (k : ℕ) (d : Record) → k < length records → (slice_index_or records k d).stamp + length records ≡ last + (k + 1)

-- each handoff number that a seat has read was posted by the seat that it names
abbrev pub WasPosted : List SeatState → Handoff → Type 0
WasPosted seats seen = seen.post ≤ (seat seats seen.seat).posts

abbrev pub ReadBefore : List SeatState → Point → Type 0
ReadBefore seats (SendPushRecheck t seen) = WasPosted seats seen
ReadBefore seats (PushedHandoffExchange pusher seen) = WasPosted seats seen
ReadBefore seats (TryHandoffExchange seen) = WasPosted seats seen
ReadBefore seats _ = ⊤

-- a seat at this point has slept since a start_wait
abbrev pub SleepsAsWaiter : Point → Type 0
SleepsAsWaiter (Asleep Sleeper.Waiter) = ⊤
SleepsAsWaiter (ReceiveWakeLoad Sleeper.Waiter) = ⊤
SleepsAsWaiter _ = ⊥

-- a seat at this point has loaded the grant in its wake word, or will load it before it begins any other call: it sleeps,
-- receives, or is a locker that has pushed its record
abbrev pub LoadsItsGrant : Point → Type 0
LoadsItsGrant (Asleep sleeper) = ⊤
LoadsItsGrant (ReceiveWakeLoad sleeper) = ⊤
LoadsItsGrant (ReceiveWakeStore stamp) = ⊤
LoadsItsGrant (PushedHandoffLoad Pusher.Locker) = ⊤
LoadsItsGrant (PushedHandoffExchange Pusher.Locker seen) = ⊤
LoadsItsGrant _ = ⊥

-- a send is about to store the free grant of seat t
pub record IsBroughtIn (c : Core) (t : ℕ) : Type 0 where
  pub sender : ℕ
  pub here : (seat c.seats sender).point ≡ SendWakeStore t

-- seat t is between a send's claim and its grant: claimed, asking, queued or about to be granted
abbrev pub IsSent : Core → ℕ → Type 0
IsSent c t = IsClaimedFor c t ⊎ (Asks c t ⊎ (IsQueued c t ⊎ IsBroughtIn c t))

pub record IsLawful (c : Core) (a : AbstractMutex) : Type 0 where
  pub reads : Reads c a
  pub owner_word : c.owner ≡ owning_seat a.place
  pub distinct : AllPairs (λ r q. r.seat ≢ q.seat) (queue_of c)
  pub stamps : EndsAt c.push.stamp (queue_of c)
  pub count : IsCounted c a
  pub watched : Watched c
  pub unposted_word : c.handoff.seat ≡ 0 → c.handoff ≡ unposted
  pub poster : 0 < c.handoff.seat → IsSeat c.seats c.handoff.seat
  pub number : 0 < c.handoff.seat → c.handoff.post ≡ (seat c.seats c.handoff.seat).posts
  pub numbers : (s : ℕ) → ReadBefore c.seats (seat c.seats s).point
  pub waiting_words : (t : ℕ) → wake c.wakes t ≡ Waiting → SleepsAsWaiter (seat c.seats t).point
  pub claimed_words : (t : ℕ) → wake c.wakes t ≡ Claimed → SleepsAsWaiter (seat c.seats t).point × IsSent c t
  pub granted_words : (t stamp : ℕ) → wake c.wakes t ≡ Grant stamp → LoadsItsGrant (seat c.seats t).point

-- a state has a reading, and all of the above holds for the two
pub record Lawful (c : Core) : Type 0 where
  pub reading : AbstractMutex
  pub lawful : IsLawful c reading
