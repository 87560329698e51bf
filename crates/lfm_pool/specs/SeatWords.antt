-- The points at which a seat loads or stores the link word or the wake word of a seat.
use Rattle.std.specs.Prelude.{◌≡◌, ℕ}
use Rattle.lfm_words.specs.declared.links.Link.{Link}
use Rattle.lfm_words.specs.declared.pop_lists.Record.{Record}
use Rattle.lfm_protocol.specs.declared.points.Carrier.{Carrier}
use Rattle.lfm_protocol.specs.declared.points.Point.TheVariants.{Asleep, LinkStore, TakeLinkLoad, GrantWakeStore, ReceiveWakeStore}
use Rattle.lfm_protocol.specs.declared.points.Pusher.{Pusher}
use Rattle.lfm_protocol.specs.declared.points.Sleeper.{Sleeper}
use Rattle.lfm_protocol.specs.declared.seats.SeatState.{SeatState}

-- a lock has loaded this push word, and stores the link of its record next
abbrev pub StoresLink : Link → SeatState → Type 0
StoresLink seen p = p.point ≡ LinkStore Pusher.Locker seen

-- a call that carries the responsibility loads the link of this seat next
abbrev pub LoadsLink : ℕ → SeatState → Type 0
LoadsLink t p = (carrier : Carrier) × (p.point ≡ TakeLinkLoad carrier t)

-- a call that carries the responsibility grants this record next
abbrev pub Grants : Record → SeatState → Type 0
Grants first p = (carrier : Carrier) × (p.point ≡ GrantWakeStore carrier first)

-- the seat sleeps
abbrev pub Sleeps : SeatState → Type 0
Sleeps p = (sleeper : Sleeper) × (p.point ≡ Asleep sleeper)

-- a receive has found a grant, and stores QUIET next
abbrev pub TakesGrant : SeatState → Type 0
TakesGrant p = (stamp : ℕ) × (p.point ≡ ReceiveWakeStore stamp)
