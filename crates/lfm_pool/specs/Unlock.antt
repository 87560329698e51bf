-- The steps of an unlock, by its answer, and what they leave.
use Rattle.std.specs.Prelude.{◌≡◌, ◌≢◌, ◌⊎◌, ⊤, ℕ, ◌+◌, List, [], ◌∷◌, ◌++◌}
use Rattle.lfm_words.specs.declared.pop_lists.Record.{Record}
use Rattle.lfm_words.specs.declared.wakes.Wake.TheVariants.{Grant}
use Rattle.lfm_words.specs.Words.{handoff_word, link_of, wake_word}
use Rattle.lfm_protocol.specs.declared.points.Carrier.{Carrier}
use Rattle.lfm_protocol.specs.declared.points.Point.TheVariants.{Rest, ReleaseOwnerStore, ReleaseCountSubtract, ReleaseHandoffStore, ReleasePushRecheck, ReleaseHandoffExchange, TakeClearHead, GrantWakeStore}
use Rattle.lfm_protocol.specs.declared.points.Releaser.TheVariants.{Unlocker}
use Rattle.lfm_table.specs.declared.seat_view.Seen.{Seen}
use Rattle.lfm_table.specs.declared.seat_view.View.{View}
use Rattle.lfm_table.specs.Actions.{RunGoesOn, seen}
use Rattle.lfm_pool.specs.declared.pool.Pool.{Pool}
use Rattle.lfm_pool.specs.declared.pool.TableSeat.{TableSeat}
use Rattle.lfm_pool.specs.declared.unlock.Released.{Released}
use Rattle.lfm_pool.specs.declared.unlock.Unlocking.{Unlocking}
use Rattle.lfm_pool.specs.Chain.{rested}
use Rattle.lfm_pool.specs.FastPaths.{KnowsMoreOf}
use Rattle.lfm_pool.specs.Handoff.{recounted}
use Rattle.lfm_pool.specs.Moves.{Made}
use Rattle.lfm_pool.specs.Releasing.{AreQueued, collecting}
use Rattle.lfm_pool.specs.Seats.{LeavesIn, state_of}
use Rattle.lfm_pool.specs.Steps.{Sits}
use Rattle.lfm_pool.specs.Tables.{part}

-- the first two steps of an unlock: it stores no owner, and its subtraction finds this count
abbrev pub release : ℕ → List Seen
release count = seen (ReleaseOwnerStore Unlocker) 0 ∷ seen (ReleaseCountSubtract Unlocker) count ∷ []

-- The unlock has found others in the count, and has granted the record r: the oldest of those that were popped, or if none
-- was, of those in the push list, which it has found in this push word and has collected first. It has ended, and the seat
-- does not hold the mutex.
pub record Hands (r : Record) (v w : View ⊤) : Type 0 where
  pub count : ℕ
  pub others : count ≢ 1
  pub found : ℕ
  pub queued : AreQueued v.popped found (r ∷ w.popped)
  pub trail : w.trail
      ≡ v.trail ++ (release count ++ (collecting (Carrier.Releaser Unlocker) v.popped found (r ∷ w.popped) ++ seen (GrantWakeStore (Carrier.Releaser Unlocker) r) (wake_word (Grant r.stamp)) ∷ []))
  pub state : w.state ≡ record v.state { depth = 0; point = Rest }
  pub run : RunGoesOn v w

-- The unlock has found others in the count, but none in the queue: no record was popped, and the push list was empty, as
-- this push word tells. It is open and posts next.
pub record FindsNobody (v w : View ⊤) : Type 0 where
  pub count : ℕ
  pub others : count ≢ 1
  pub found : ℕ
  pub none : (link_of found).next ≡ 0
  pub trail : w.trail ≡ v.trail ++ (release count ++ seen (TakeClearHead (Carrier.Releaser Unlocker)) found ∷ [])
  pub state : w.state ≡ record v.state { depth = 0; point = ReleaseHandoffStore Unlocker }
  pub run : RunGoesOn v w

-- From s to t the seat, which held mutex m once, has begun an unlock of it and has come this far. If it posts next, all
-- popped records are in the chain, and the carried word names the oldest: a step that gives the mutex away needs that.
abbrev pub UnlocksIn : Unlocking → TableSeat → TableSeat → Pool → ℕ → Type 0
UnlocksIn Unlocking.Free s t p m = LeavesIn s t p m
UnlocksIn (Unlocking.Granted r) s t p m =
    KnowsMoreOf m (λ w k. Hands r (part s.place.me.0 m) w × Sits s.number s.place.id p.limits w.state w) s.place.me t.place.me
UnlocksIn Unlocking.Posts s t p m =
    KnowsMoreOf m
    (λ w k. FindsNobody (part s.place.me.0 m) w × Sits s.number s.place.id p.limits w.state w × (k ≡ rested w.popped))
    s.place.me t.place.me

-- Posts

-- the word of the mutex's table for this post of the seat with this number
abbrev pub post_word : ℕ → ℕ → ℕ
post_word number post = handoff_word (record { seat = number; post = post })

-- the store of a post, and the load of the push word after it
abbrev pub posting : ℕ → ℕ → ℕ → List Seen
posting number post look = seen (ReleaseHandoffStore Unlocker) (post_word number post) ∷ seen (ReleasePushRecheck Unlocker) look ∷ []

-- The steps of an unlock of the seat with this number from this post on; these records are popped after them.
-- - Posted: the push word that it has loaded has no record
-- - TakenOver: it has one, and the exchange has found the post gone
-- - Granted: it has one, the exchange has found the post, and the call has granted the record r, as an unlock that finds a
--   record at once does
abbrev pub PostSteps : Released → ℕ → ℕ → List Record → List Seen → Type 0
PostSteps Released.Posted number post popped new = (look : ℕ) × ((link_of look).next ≡ 0) × (new ≡ posting number post look)
PostSteps Released.TakenOver number post popped new =
    (look found : ℕ) × ((link_of look).next ≢ 0) × (found ≢ post_word number post)
    × (new ≡ posting number post look ++ seen (ReleaseHandoffExchange Unlocker) found ∷ [])
PostSteps (Released.Granted r) number post popped new =
    (look found : ℕ) × (before : List Record) × ((link_of look).next ≢ 0) × AreQueued before found (r ∷ popped)
    × (new ≡ posting number post look ++ (seen (ReleaseHandoffExchange Unlocker) (post_word number post) ∷ (collecting (Carrier.Reclaimer Unlocker) before found (r ∷ popped) ++ seen (GrantWakeStore (Carrier.Reclaimer Unlocker) r) (wake_word (Grant r.stamp)) ∷ [])))
PostSteps Released.Free number post popped new = ⊥

-- from s to t the seat has posted mutex m and has ended its unlock with this answer: it has counted one post more
abbrev pub PostsIn : Released → TableSeat → TableSeat → Pool → ℕ → Type 0
PostsIn result s t p m =
    KnowsMoreOf m
    (λ w k.
    ((new : List Seen) × PostSteps result s.number ((state_of s m).posts + 1) w.popped new
    × Made new (record (state_of s m) { posts = (state_of s m).posts + 1; point = Rest }) (part s.place.me.0 m) w)
    × Sits s.number s.place.id p.limits w.state w)
    (recounted s (s.posts + 1)).place.me t.place.me

-- The unlock of the seat with this number has found others in the count, but none in the queue. It has posted, and has ended
-- with this answer.
pub record PassesOn (result : Released) (number : ℕ) (v w : View ⊤) : Type 0 where
  pub count : ℕ
  pub others : count ≢ 1
  pub found : ℕ
  pub none : (link_of found).next ≡ 0
  pub later : List Seen
  pub steps : PostSteps result number (v.state.posts + 1) w.popped later
  pub trail : w.trail ≡ v.trail ++ (release count ++ (seen (TakeClearHead (Carrier.Releaser Unlocker)) found ∷ later))
  pub state : w.state ≡ record v.state { depth = 0; posts = v.state.posts + 1; point = Rest }
  pub run : RunGoesOn v w

abbrev pub PassesOnIn : Released → TableSeat → TableSeat → Pool → ℕ → Type 0
PassesOnIn result s t p m =
    KnowsMoreOf m (λ w k. PassesOn result s.number (part s.place.me.0 m) w × Sits s.number s.place.id p.limits w.state w)
    (recounted s (s.posts + 1)).place.me t.place.me

-- From s to t the seat, which held mutex m once, has made an unlock of it that has ended with this answer.
abbrev pub ReleasesIn : Released → TableSeat → TableSeat → Pool → ℕ → Type 0
ReleasesIn Released.Free s t p m = LeavesIn s t p m
ReleasesIn (Released.Granted r) s t p m = UnlocksIn (Unlocking.Granted r) s t p m ⊎ PassesOnIn (Released.Granted r) s t p m
ReleasesIn Released.Posted s t p m = PassesOnIn Released.Posted s t p m
ReleasesIn Released.TakenOver s t p m = PassesOnIn Released.TakenOver s t p m
