-- What the contracts say of an unlock that serves the oldest queued seat.
use Rattle.std.specs.Prelude.{◌≡◌, ⊤, ℕ, Bool, true, false, List, [], ◌∷◌, ◌++◌}
use Rattle.lfm_words.specs.declared.pop_lists.Record.{Record}
use Rattle.lfm_words.specs.declared.wakes.Wake.TheVariants.{Grant}
use Rattle.lfm_words.specs.Popped.{oldest}
use Rattle.lfm_words.specs.Words.{link_of, wake_word}
use Rattle.lfm_protocol.specs.After.{take}
use Rattle.lfm_protocol.specs.declared.points.Carrier.{Carrier}
use Rattle.lfm_protocol.specs.declared.points.Point.TheVariants.{Rest, ReleaseHandoffStore, TakeClearHead, GrantWakeStore}
use Rattle.lfm_protocol.specs.declared.points.Releaser.TheVariants.{Unlocker}
use Rattle.lfm_table.specs.declared.seat_view.Seen.{Seen}
use Rattle.lfm_table.specs.declared.seat_view.View.{View}
use Rattle.lfm_table.specs.Actions.{RunGoesOn, seen}
use Rattle.lfm_pool.specs.declared.pool.Pool.{Pool}
use Rattle.lfm_pool.specs.declared.pool.TableSeat.{TableSeat}
use Rattle.lfm_pool.specs.Chain.{rested}
use Rattle.lfm_pool.specs.Collecting.{loads_of, walk_head}
use Rattle.lfm_pool.specs.FastPaths.{KnowsMoreOf}
use Rattle.lfm_pool.specs.Seats.{popped_of, state_of}
use Rattle.lfm_pool.specs.Steps.{Sits}
use Rattle.lfm_pool.specs.Tables.{part}

-- this carrier is an unlock: one that has released the mutex, or has taken its post back
abbrev pub is_unlock : Carrier → Bool
is_unlock (Carrier.Releaser Unlocker) = true
is_unlock (Carrier.Reclaimer Unlocker) = true
is_unlock _ = false

-- this carrier serves the oldest of the seats that are counted next
abbrev pub IsServing : Carrier → TableSeat → ℕ → Type 0
IsServing carrier s m = (state_of s m).point ≡ take carrier s.number (oldest (popped_of s m))

-- the steps by which a call collects the push list, if no record is popped: it finds this push word, and these records
abbrev pub collecting : Carrier → List Record → ℕ → List Record → List Seen
collecting carrier [] found records = seen (TakeClearHead carrier) found ∷ loads_of carrier records 0
collecting carrier (x ∷ rest) found records = []

-- which records these are: those that were popped, or if there were none, those from the head of the push word on
abbrev pub AreQueued : List Record → ℕ → List Record → Type 0
AreQueued [] found records = walk_head records 0 ≡ (link_of found).next
AreQueued (x ∷ rest) found records = records ≡ x ∷ rest

-- The unlock, as this carrier, has granted the record r, the oldest, and has ended. If no record was popped, it has found
-- this push word, and has collected the push list first.
pub record GrantsNext (carrier : Carrier) (r : Record) (v w : View ⊤) : Type 0 where
  pub found : ℕ
  pub queued : AreQueued v.popped found (r ∷ w.popped)
  pub trail : w.trail
      ≡ v.trail ++ (collecting carrier v.popped found (r ∷ w.popped) ++ seen (GrantWakeStore carrier r) (wake_word (Grant r.stamp)) ∷ [])
  pub state : w.state ≡ record v.state { point = Rest }
  pub run : RunGoesOn v w

abbrev pub GrantsNextIn : Carrier → TableSeat → TableSeat → Pool → ℕ → Record → Type 0
GrantsNextIn carrier s t p m r =
    KnowsMoreOf m (λ w k. GrantsNext carrier r (part s.place.me.0 m) w × Sits s.number s.place.id p.limits w.state w) s.place.me t.place.me

-- No record was popped, and the push list was empty, as this push word tells: the seats that are counted have not pushed
-- their records yet. The unlock posts next. One that has taken its post back finds a record.
pub record FindsNone (v w : View ⊤) : Type 0 where
  pub found : ℕ
  pub none : (link_of found).next ≡ 0
  pub trail : w.trail ≡ v.trail ++ seen (TakeClearHead (Carrier.Releaser Unlocker)) found ∷ []
  pub state : w.state ≡ record v.state { point = ReleaseHandoffStore Unlocker }
  pub run : RunGoesOn v w

abbrev pub FindsNoneIn : Carrier → TableSeat → TableSeat → Pool → ℕ → Type 0
FindsNoneIn carrier s t p m =
    (carrier ≡ Carrier.Releaser Unlocker) × KnowsMoreOf m
    (λ w k. FindsNone (part s.place.me.0 m) w × Sits s.number s.place.id p.limits w.state w × (k ≡ rested w.popped))
    s.place.me t.place.me
