-- What the steps leave by which a lock puts its record into the queue.
use Rattle.std.specs.Prelude.{◌≡◌, ⊤, ℕ, ◌++◌, ◌+◌, [], ◌∷◌, true, nat_eq, if◌then◌else◌}
use Rattle.lfm_words.specs.declared.links.Link.{Link}
use Rattle.lfm_words.specs.Words.{handoff_of, handoff_word, link_of, link_word}
use Rattle.lfm_words.specs.declared.handoffs.Handoff.{Handoff}
use Rattle.lfm_words.specs.Popped.{oldest}
use Rattle.lfm_protocol.specs.After.{same_handoff, same_link, take}
use Rattle.lfm_protocol.specs.declared.points.Carrier.{Carrier}
use Rattle.lfm_protocol.specs.declared.points.Point.{Point}
use Rattle.lfm_protocol.specs.declared.points.Point.TheVariants.{Asleep, PushLoad, LinkStore, PushExchange, PushedHandoffLoad, PushedHandoffExchange}
use Rattle.lfm_protocol.specs.declared.points.Pusher.{Pusher}
use Rattle.lfm_protocol.specs.declared.points.Sleeper.TheVariants as Sleeper
use Rattle.lfm_protocol.specs.declared.seats.SeatState.{SeatState}
use Rattle.lfm_table.specs.declared.seat_view.View.{View}
use Rattle.lfm_table.specs.Actions.{RunGoesOn, seen}
use Rattle.lfm_pool.specs.declared.pool.Pool.{Pool}
use Rattle.lfm_pool.specs.declared.pool.TableSeat.{TableSeat}
use Rattle.lfm_pool.specs.Chain.{note_since, rested}
use Rattle.lfm_pool.specs.FastPaths.{KnowsMoreOf}
use Rattle.lfm_pool.specs.Handoff.{SameLoaded, SameTried, forgotten}
use Rattle.lfm_pool.specs.Seats.{state_of}
use Rattle.lfm_pool.specs.Steps.{Sits}
use Rattle.lfm_pool.specs.Tables.{note, part}

-- The seat, which does not hold the mutex and had loaded the push word `loaded`, has stored its link, and its exchange has
-- found n. Its record was pushed if that is the word that it had loaded; else it has loaded n.
pub record Pushes (loaded : Link) (n : ℕ) (v w : View ⊤) : Type 0 where
  pub trail : w.trail
      ≡ v.trail ++ (seen (LinkStore Pusher.Locker loaded) (link_word (record { stamp = loaded.stamp + 1; next = loaded.next })) ∷ seen (PushExchange Pusher.Locker loaded) n ∷ [])
  pub flat : v.state.depth ≡ 0
  pub state : w.state ≡ record v.state { point = if same_link (link_of n) loaded then PushedHandoffLoad Pusher.Locker else LinkStore Pusher.Locker (link_of n) }
  pub run : RunGoesOn v w

-- from s to t the seat has made such an attempt in mutex m, which found n
abbrev pub PushesIn : TableSeat → TableSeat → Pool → ℕ → Link → ℕ → Type 0
PushesIn s t p m loaded n =
    KnowsMoreOf m
    (λ w k.
    Pushes loaded n (part s.place.me.0 m) w × Sits s.number s.place.id p.limits w.state w
    × (k ≡ note_since w (note s.place.me.0 m)))
    s.place.me t.place.me

-- a lock loads the push word next
abbrev pub LoadsPush : SeatState → Type 0
LoadsPush p = p.point ≡ PushLoad Pusher.Locker

-- a lock has pushed its record, and loads the handoff word next
abbrev pub LoadsHandoff : SeatState → Type 0
LoadsHandoff p = p.point ≡ PushedHandoffLoad Pusher.Locker

-- the seat, which does not hold the mutex, has made one step, at the point p, which found n; it is at the point q now, and
-- has nothing else changed
pub record Steps (p : Point) (n : ℕ) (q : Point) (v w : View ⊤) : Type 0 where
  pub trail : w.trail ≡ v.trail ++ seen p n ∷ []
  pub flat : v.state.depth ≡ 0
  pub state : w.state ≡ record v.state { point = q }
  pub run : RunGoesOn v w

-- from s to t the seat has made such a step in mutex m
abbrev pub StepsFrom : TableSeat → TableSeat → Pool → ℕ → Point → ℕ → Point → Type 0
StepsFrom s t p m q n r =
    KnowsMoreOf m
    (λ w k.
    Steps q n r (part s.place.me.0 m) w × Sits s.number s.place.id p.limits w.state w
    × (k ≡ note_since w (note s.place.me.0 m)))
    s.place.me t.place.me

-- from s to t the seat has loaded the push word n of mutex m, and stores its link next
abbrev pub LoadsPushIn : TableSeat → TableSeat → Pool → ℕ → ℕ → Type 0
LoadsPushIn s t p m n = StepsFrom s t p m (PushLoad Pusher.Locker) n (LinkStore Pusher.Locker (link_of n))

-- from s to t the seat has loaded the handoff word n of mutex m: it sleeps now, if nothing was posted
abbrev pub LoadsHandoffIn : TableSeat → TableSeat → Pool → ℕ → ℕ → Type 0
LoadsHandoffIn s t p m n =
    StepsFrom s t p m (PushedHandoffLoad Pusher.Locker) n
    (if nat_eq (handoff_of n).seat 0 then Asleep Sleeper.Locker else PushedHandoffExchange Pusher.Locker (handoff_of n))

-- The same by the word n of the mutex: the word of its table names the same seat, or none either. The seat remembers the
-- number of the post.
abbrev pub FindsHandoffIn : TableSeat → TableSeat → Pool → ℕ → ℕ → Type 0
FindsHandoffIn s t p m n =
    (l : ℕ) × LoadsHandoffIn s (forgotten t) p m l × SameLoaded s.place.me.0 n l × (t.place.me.0.found ≡ (handoff_of n).post)

-- a lock has found this post after its push, and tries to take it over next
abbrev pub TakesPost : Handoff → SeatState → Type 0
TakesPost posted p = p.point ≡ PushedHandoffExchange Pusher.Locker posted

-- the same, and the handoff word of the mutex has this number for it
abbrev pub TakesWord : ℕ → TableSeat → ℕ → Type 0
TakesWord word s m =
    (posted : Handoff) × TakesPost posted (state_of s m) × (word ≡ handoff_word (record { seat = posted.seat; post = s.place.me.0.found }))

-- The seat with this number, which does not hold the mutex, has found n by its exchange of the handoff word. If that is the
-- post that was loaded, the seat has the responsibility: it serves the oldest record of the pop list, or collects the push
-- list first if there is none. Else it sleeps.
pub record TakesOver (number : ℕ) (posted : Handoff) (n : ℕ) (v w : View ⊤) : Type 0 where
  pub trail : w.trail ≡ v.trail ++ seen (PushedHandoffExchange Pusher.Locker posted) n ∷ []
  pub flat : v.state.depth ≡ 0
  pub state : w.state
      ≡ record v.state { point = if same_handoff (handoff_of n) posted then take Carrier.Locker number (oldest w.popped) else Asleep Sleeper.Locker }
  pub run : RunGoesOn v w

-- from s to t the seat has made that exchange in mutex m
abbrev pub TakesOverIn : TableSeat → TableSeat → Pool → ℕ → Handoff → ℕ → Type 0
TakesOverIn s t p m posted n =
    KnowsMoreOf m
    (λ w k.
    TakesOver s.number posted n (part s.place.me.0 m) w × Sits s.number s.place.id p.limits w.state w
    × (same_handoff (handoff_of n) posted ≡ true → k ≡ rested w.popped) × (k ≡ note_since w (note s.place.me.0 m)))
    s.place.me t.place.me

-- the same, by the number in the handoff word of the mutex, where the exchange found n
abbrev pub TakesWordIn : TableSeat → TableSeat → Pool → ℕ → ℕ → ℕ → Type 0
TakesWordIn s t p m word n =
    (posted : Handoff) × (l : ℕ) × TakesPost posted (state_of s m) × TakesOverIn (forgotten s) t p m posted l
    × SameTried (PushedHandoffExchange Pusher.Locker posted) s.place.me.0 word (handoff_word posted) n l × (t.place.me.0.found ≡ 0)
