-- The steps of a seat on the handoff word of a mutex. The handoff word has the number of a post among all posts of its seat,
-- and the word of the mutex's table its number among the posts in this mutex. In what follows the second of two words that a
-- step finds is the word of the table.
use Rattle.std.specs.Prelude.{◌≡◌, ◌≢◌, ⊤, ℕ, ◌+◌, Bool, true, false, List, None}
use Rattle.atomic_table.specs.Table.{Me}
use Rattle.lfm_words.specs.declared.handoffs.Handoff.{Handoff}
use Rattle.lfm_words.specs.Words.{handoff_of, handoff_word}
use Rattle.lfm_protocol.specs.declared.points.Point.{Point}
use Rattle.lfm_protocol.specs.declared.points.Point.TheVariants.{TryHandoffLoad, TryHandoffExchange, PushedHandoffLoad, PushedHandoffExchange, ReleaseHandoffStore, ReleaseHandoffExchange}
use Rattle.lfm_protocol.specs.declared.points.Pusher.{Pusher}
use Rattle.lfm_protocol.specs.declared.points.Releaser.TheVariants.{Unlocker}
use Rattle.lfm_protocol.specs.declared.seats.SeatState.{SeatState}
use Rattle.lfm_protocol.specs.Seats.{unposted}
use Rattle.lfm_protocol.specs.Stores.{expected_handoff, stored_handoff}
use Rattle.lfm_laws.specs.steady.Steady.{DepthAt}
use Rattle.lfm_table.specs.declared.seat_view.View.{View}
use Rattle.lfm_pool.specs.declared.pool.Pool.{Pool}
use Rattle.lfm_pool.specs.declared.pool.TableSeat.{TableSeat}
use Rattle.lfm_pool.specs.declared.view.PoolView.{PoolView}
use Rattle.lfm_pool.specs.Chain.{note_after}
use Rattle.lfm_pool.specs.Posts.{loaded_post}
use Rattle.lfm_pool.specs.Seats.{MovesIn, state_of}
use Rattle.lfm_pool.specs.Tables.{Slot, note, with_part}

-- Points

-- a seat at this point loads the handoff word next
abbrev pub loads_handoff : Point → Bool
loads_handoff (PushedHandoffLoad Pusher.Locker) = true
loads_handoff TryHandoffLoad = true
loads_handoff _ = false

-- it tries for a post next, by an exchange
abbrev pub tries_post : Point → Bool
tries_post (PushedHandoffExchange Pusher.Locker seen) = true
tries_post (TryHandoffExchange seen) = true
tries_post (ReleaseHandoffExchange Unlocker) = true
tries_post _ = false

-- it posts next
abbrev pub makes_post : Point → Bool
makes_post (ReleaseHandoffStore Unlocker) = true
makes_post _ = false

-- The post for which the seat with this number tries at this point, as the handoff word has it: the one that it has loaded,
-- or its own last one.
abbrev pub tried_post : ℕ → PoolView → Point → Handoff
tried_post number v (PushedHandoffExchange pusher seen) = record { seat = seen.seat; post = v.found }
tried_post number v (TryHandoffExchange seen) = record { seat = seen.seat; post = v.found }
tried_post number v (ReleaseHandoffExchange releaser) = record { seat = number; post = v.posts }
tried_post number v _ = unposted

-- What the seat finds

-- A load has found the words n and l. The seat had loaded no post before.
pub record SameLoaded (v : PoolView) (n l : ℕ) : Type 0 where
  pub seat : (handoff_of l).seat ≡ (handoff_of n).seat
  pub none : (handoff_of n).seat ≡ 0 → (handoff_of n).post ≡ 0
  pub unfound : v.found ≡ 0

-- An exchange has found the words n and l, where it expected these two: it has found both or neither of them. If the seat
-- tries for its own post, it has loaded none.
pub record SameTried (q : Point) (v : PoolView) (expected expected_there n l : ℕ) : Type 0 where
  pub hits : n ≡ expected → l ≡ expected_there
  pub misses : n ≢ expected → l ≢ expected_there
  pub unfound : loaded_post q ≡ None → v.found ≡ 0

-- What the table tells

-- a load of the handoff word of mutex m has found n, as a step at the table of the mutex: see `TellsOf`
abbrev pub TellsOfLoad : ℕ → SeatState → (ℕ → Me Slot (View ⊤) → Type 0) → Me ℕ PoolView → ℕ → Me ℕ PoolView → Type 0
TellsOfLoad m p tells me n me' =
    (w : View ⊤) × (slots : List (ℕ × Slot)) × (l : ℕ) × tells l (w, slots)
    × (me' ≡ (record (with_part me.0 m w (note_after p w (note me.0 m))) { found = (handoff_of n).post }, me.1))
    × SameLoaded me.0 n l × DepthAt w.state.depth w.state.point

-- an exchange of the seat with this number, which expected this word, has found n
abbrev pub TellsOfTry : ℕ → ℕ → SeatState → ℕ → (ℕ → Me Slot (View ⊤) → Type 0) → Me ℕ PoolView → ℕ → Me ℕ PoolView → Type 0
TellsOfTry m number p expected tells me n me' =
    (w : View ⊤) × (slots : List (ℕ × Slot)) × (l : ℕ) × tells l (w, slots)
    × (me' ≡ (record (with_part me.0 m w (note_after p w (note me.0 m))) { found = 0 }, me.1))
    × SameTried p.point me.0 expected (handoff_word (expected_handoff p number)) n l × DepthAt w.state.depth w.state.point

-- the seat with this number has posted
abbrev pub TellsOfPost : ℕ → ℕ → SeatState → (ℕ → Me Slot (View ⊤) → Type 0) → Me ℕ PoolView → Me ℕ PoolView → Type 0
TellsOfPost m number p tells me me' =
    (w : View ⊤) × (slots : List (ℕ × Slot)) × tells (handoff_word (stored_handoff p number)) (w, slots)
    × (me' ≡ (record (with_part me.0 m w (note_after p w (note me.0 m))) { posts = me.0.posts + 1 }, me.1))
    × (me.0.found ≡ 0) × DepthAt w.state.depth w.state.point

-- What the contracts say

-- what a seat knows, except the number of the post that it has loaded
abbrev pub forgetting : Me ℕ PoolView → Me ℕ PoolView
forgetting me = (record me.0 { found = 0 }, me.1)

-- the seat without that number
abbrev pub forgotten : TableSeat → TableSeat
forgotten s = record s { place = record s.place { me = forgetting s.place.me } }

-- the seat with this count of posts in place of its own
abbrev pub recounted : TableSeat → ℕ → TableSeat
recounted s k = record s { place = record s.place { me = (record s.place.me.0 { posts = k }, s.place.me.1) }; posts = k; counted = λ i. k }

-- from s to t the seat has loaded the handoff word of mutex m, and found n
abbrev pub LoadsWordIn : TableSeat → TableSeat → Pool → ℕ → ℕ → Type 0
LoadsWordIn s t p m n =
    (l : ℕ) × MovesIn s (forgotten t) p m l × SameLoaded s.place.me.0 n l × (t.place.me.0.found ≡ (handoff_of n).post)

-- from s to t the seat has tried for this post in mutex m, and found n
abbrev pub TriesPostIn : TableSeat → TableSeat → Pool → ℕ → ℕ → ℕ → Type 0
TriesPostIn s t p m post n =
    (l : ℕ) × MovesIn (forgotten s) t p m l
    × SameTried (state_of s m).point s.place.me.0 post (handoff_word (expected_handoff (state_of s m) s.number)) n l
    × (t.place.me.0.found ≡ 0)

-- from s to t the seat has posted mutex m
abbrev pub MakesPostIn : TableSeat → TableSeat → Pool → ℕ → Type 0
MakesPostIn s t p m =
    MovesIn (recounted s (s.posts + 1)) t p m (handoff_word (record { seat = s.number; post = (state_of s m).posts + 1 }))
    × (s.place.me.0.found ≡ 0)
