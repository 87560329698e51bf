-- The numbers of posts, and the rule of a pool's table: it bounds these numbers, and the stamps.
--
-- A seat numbers the posts that it makes in all mutexes by one counter. The table that a mutex would have by itself numbers
-- the posts of a seat in this mutex alone. So the handoff word of a mutex has one number for a post, and the word of its
-- table another one.
use Rattle.std.specs.Prelude.{◌≡◌, ◌≢◌, ℕ, ◌+◌, ◌^◌, ◌<◌, ◌≤◌, Bool, true, false, List, Option, Some, None, length, nat_eq, slice_index, if◌then◌else◌}
use mathlib.Core.Option.{some}
use lib.ListN.{get_elem?}
use Rattle.atomic_table.specs.Table.{State}
use Rattle.lfm_words.specs.declared.handoffs.Handoff.{Handoff}
use Rattle.lfm_words.specs.Words.{handoff_of, handoff_word}
use Rattle.lfm_protocol.specs.declared.points.Point.{Point}
use Rattle.lfm_protocol.specs.declared.points.Point.TheVariants.{TryHandoffExchange, PushedHandoffExchange, ReleasePushRecheck, ReleaseHandoffExchange}
use Rattle.lfm_protocol.specs.declared.points.Pusher.{Pusher}
use Rattle.lfm_protocol.specs.declared.seats.SeatState.{SeatState}
use Rattle.lfm_pool.specs.declared.view.PoolView.{PoolView}
use Rattle.lfm_pool.specs.Admissions.{HasSeen, HasStamps}
use Rattle.lfm_pool.specs.Rule.{HeldPool, own_at}
use Rattle.lfm_pool.specs.Tables.{part}

-- what the handoff word of a mutex has, if the word of its table has n, and `names` is the number, among all posts of a
-- seat, of each post that the seat has made in this mutex
abbrev pub named : (ℕ → ℕ → ℕ) → ℕ → ℕ
named names n =
    if nat_eq (handoff_of n).seat 0
    then 0
    else handoff_word (record { seat = (handoff_of n).seat; post = names (handoff_of n).seat (handoff_of n).post })

-- the post that the call of a seat at this point has loaded and not tried for yet
abbrev pub loaded_post : Point → Option Handoff
loaded_post (PushedHandoffExchange Pusher.Locker seen) = Some seen
loaded_post (TryHandoffExchange seen) = Some seen
loaded_post _ = None

-- the call of a seat at this point has posted, and may take its post back
abbrev pub has_posted : Point → Bool
has_posted (ReleasePushRecheck releaser) = true
has_posted (ReleaseHandoffExchange releaser) = true
has_posted _ = false

-- The rule of a pool's table: `HeldPool` holds of it, if each handoff word is replaced by that of the table of its mutex.
-- - own, held: the words with the handoff words of the tables, and the rule of these
-- - names: the number, among all posts of a seat, of each post that it has made in a mutex
-- - same, long, handed: which words there are
-- - rising, first: each post of a seat in a mutex has a greater number than the posts before it
-- - counted: a seat has counted each of its posts
-- - loaded: a seat remembers the number of the post that its call has loaded
-- - posted: the number of the post that a call may take back is the count of its seat
-- - unfound: a seat that has loaded no post remembers no number
-- - stamps: a stamp is left for each seat that may push, and one more
-- - seen: the push word has had each stamp that a seat has found there when it looked for one
-- - few: a number is left for one more post of each seat
pub record HeldPosts (s : State ℕ PoolView) : Type 0 where
  pub own : List ℕ
  pub held : HeldPool (record { words = own; homes = s.homes; views = s.views })
  pub names : ℕ → ℕ → ℕ → ℕ
  pub long : length s.words ≡ length own
  pub same : (i : ℕ) → ((m : ℕ) → m < held.mutexes → i ≢ own_at m 2) → slice_index s.words i ≡ slice_index own i
  pub handed : (m : ℕ) → m < held.mutexes → slice_index s.words (own_at m 2) ≡ named (names m) (slice_index own (own_at m 2))
  pub rising : (m t a b : ℕ) → a < b → names m t a < names m t b
  pub first : (m t : ℕ) → names m t 0 ≡ 0
  pub counted : (m j : ℕ) (v : PoolView) → m < held.mutexes → get_elem? s.views j ≡ some v → names m (j + 1) (part v m).state.posts ≤ v.posts
  pub loaded : (m j : ℕ) (v : PoolView) (seen : Handoff) → m < held.mutexes → get_elem? s.views j ≡ some v
      → loaded_post (part v m).state.point ≡ Some seen → v.found ≡ names m seen.seat seen.post
  pub posted : (m j : ℕ) (v : PoolView) → m < held.mutexes → get_elem? s.views j ≡ some v
      → has_posted (part v m).state.point ≡ true → v.posts ≡ names m (j + 1) (part v m).state.posts
  pub unfound : (j : ℕ) (v : PoolView) → get_elem? s.views j ≡ some v
      → ((m : ℕ) → m < held.mutexes → loaded_post (part v m).state.point ≡ None) → v.found ≡ 0
  pub stamps : (m : ℕ) → m < held.mutexes → HasStamps m s.words s.views
  pub seen : (m j : ℕ) (v : PoolView) → m < held.mutexes → get_elem? s.views j ≡ some v → HasSeen m s.words v
  pub few : (j : ℕ) (v : PoolView) → get_elem? s.views j ≡ some v → v.posts + 1 < 2 ^ 48

-- What a seat knows of its posts is the same, if it knew v and knows u now: neither has it made a post, nor loaded one, nor
-- tried for one.
pub record KeepsPost (x y : SeatState) : Type 0 where
  pub posts : y.posts ≡ x.posts
  pub loaded : loaded_post y.point ≡ loaded_post x.point
  pub posted : has_posted y.point ≡ true → has_posted x.point ≡ true

pub record KeepsPosts (v u : PoolView) : Type 0 where
  pub parts : length u.parts ≡ length v.parts
  pub posts : u.posts ≡ v.posts
  pub found : u.found ≡ v.found
  pub each : (m : ℕ) → KeepsPost (part v m).state (part u m).state
