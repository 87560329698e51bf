-- What the rule of the table states about a running mutex at every moment, as facts of the core, and what a seat knows of its
-- mutex.
use Rattle.std.specs.Prelude.{◌≡◌, ◌⊎◌, ℕ, ◌+◌, ◌<◌, ◌≤◌, [], Option, true}
use mathlib.Core.Option.{some}
use lib.ListN.{get_elem?}
use Rattle.lfm_table.specs.Table.{State}
use Rattle.lfm_protocol.specs.declared.points.Carrier.{Carrier}
use Rattle.lfm_protocol.specs.declared.points.Point.TheVariants.{TakeClearHead}
use Rattle.lfm_protocol.specs.Core.{Core}
use Rattle.lfm_protocol.specs.Limits.{max_budget}
use Rattle.lfm_protocol.specs.Seats.{seat, unposted}
use Rattle.lfm_laws.specs.laws.Lawful.{Lawful}
use Rattle.lfm_laws.specs.laws.Laws.{IsQuiet, IsHeld, IsGranted, has_won}
use Rattle.lfm_laws.specs.laws.Watched.{Watched}
use Rattle.lfm_laws.specs.steady.Steady.{Steady}
use Rattle.lfm_laws.specs.table.Words.{words}
use Rattle.lfm_table.specs.declared.rule.Moving.{Moving}
use Rattle.lfm_table.specs.declared.seat_view.View.{View}
use Rattle.lfm_table.specs.Rule.{Held}
use Rattle.lfm_mutex.specs.declared.mutex.Mutex.{Mutex}
use Rattle.lfm_mutex.specs.declared.seat.Seat.{Seat}
use Rattle.lfm_mutex.specs.Belongs.{OfMutex, limits_of}
use Rattle.lfm_mutex.specs.calls.Sight.{sight}

-- the table's words are those of this state of the core, and each seat of the core has the state that the seat's last step left
pub record IsCore {T : Type 0} (s : State (Option (Moving T)) (View T)) (c : Core) : Type 0 where
  pub words_are : s.words ≡ words c
  pub seats_are : (j : ℕ) (v : View T) → get_elem? s.views j ≡ some v → seat c.seats (j + 1) ≡ v.state

module _ {T : Type 0} (follows : ℕ → T → T → Type 0) (fits : T → ℕ → Type 0) where
  -- at every moment the words and seats are a steady state of the core within the limits, so every law of steady states holds of
  -- them
  abbrev pub TablesAreSteady : Type 0
  TablesAreSteady = (s : State (Option (Moving T)) (View T)) → Held follows fits s → (c : Core) × IsCore s c × Steady c × (c.budget ≤ max_budget) × Lawful c

  -- every posted handoff is watched
  abbrev pub PostsAreWatched : Type 0
  PostsAreWatched = (s : State (Option (Moving T)) (View T)) → Held follows fits s → (c : Core) × IsCore s c × Watched c

  -- while no call is open, nothing is posted, and if the count is above 0, a seat holds, or a sleeping seat has a grant that it
  -- has not loaded
  abbrev pub QuietTablesRest : Type 0
  QuietTablesRest =
      (s : State (Option (Moving T)) (View T)) → Held follows fits s → (c : Core) × IsCore s c × (IsQuiet c → (c.handoff ≡ unposted) × (0 < c.count → IsHeld c ⊎ IsGranted c))

  -- a call that won the exchange of a posted handoff finds a record when it clears the push list
  abbrev pub TakesFindARecord : Type 0
  TakesFindARecord =
      (s : State (Option (Moving T)) (View T)) → Held follows fits s
      → (c : Core) × IsCore s c × ((k : ℕ) (carrier : Carrier) → (seat c.seats k).point ≡ TakeClearHead carrier → has_won carrier ≡ true → (0 < c.push.next) × (c.popped ≡ []))

-- the sight of a seat states how many seats its mutex has
abbrev pub KnowsItsMutex : Type 0 → Type 0
KnowsItsMutex T = (s : Seat T) (m : Mutex T) → OfMutex s m → (sight s).seats ≡ (limits_of m).seats
