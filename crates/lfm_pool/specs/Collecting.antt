-- What the contracts say of a call that collects the push list of a mutex.
use Rattle.std.specs.Prelude.{◌≡◌, ⊤, ℕ, List, [], ◌∷◌, ◌++◌, drop}
use Rattle.lfm_words.specs.declared.pop_lists.Record.{Record}
use Rattle.lfm_words.specs.Words.{link_word}
use Rattle.lfm_protocol.specs.After.{serves}
use Rattle.lfm_protocol.specs.declared.points.Carrier.{Carrier}
use Rattle.lfm_protocol.specs.declared.points.Point.TheVariants.{TakeClearHead, TakeLinkLoad}
use Rattle.lfm_protocol.specs.declared.seats.SeatState.{SeatState}
use Rattle.lfm_table.specs.declared.seat_view.Seen.{Seen}
use Rattle.lfm_table.specs.declared.seat_view.View.{View}
use Rattle.lfm_table.specs.Actions.{RunGoesOn, seen}
use Rattle.lfm_pool.specs.declared.pool.Pool.{Pool}
use Rattle.lfm_pool.specs.declared.pool.TableSeat.{TableSeat}
use Rattle.lfm_pool.specs.Chain.{rested}
use Rattle.lfm_pool.specs.FastPaths.{KnowsMoreOf}
use Rattle.lfm_pool.specs.Seats.{note_of, state_of}
use Rattle.lfm_pool.specs.Serving.{IsOldest}
use Rattle.lfm_pool.specs.Steps.{Sits, Stepped}
use Rattle.lfm_pool.specs.Tables.{part}

-- a call clears the head of the push word next
abbrev pub ClearsHead : SeatState → Type 0
ClearsHead p = (carrier : Carrier) × (p.point ≡ TakeClearHead carrier)

-- from s to t the seat has loaded a link in mutex m, whose word is n, and the chain is whole as before: it has the record of
-- the link too
abbrev pub CollectsOneIn : TableSeat → TableSeat → Pool → ℕ → ℕ → Type 0
CollectsOneIn s t p m n =
    KnowsMoreOf m
    (λ w k.
    Stepped s.number (state_of s m) (part s.place.me.0 m) n w × Sits s.number s.place.id p.limits w.state w
    × (k ≡ note_of s m))
    s.place.me t.place.me

-- The walk through the push list

-- The steps by which a call has loaded the links of these records, the oldest first, if the seat of the record that it loads
-- next is `next`, or 0 if there is none: it has begun with the newest record, which is the last.
abbrev pub loads_of : Carrier → List Record → ℕ → List Seen
loads_of carrier [] next = []
loads_of carrier (r ∷ rest) next =
    loads_of carrier rest r.seat ++ seen (TakeLinkLoad carrier r.seat) (link_word (record { stamp = r.stamp; next = next })) ∷ []

-- the seat of the newest of these records, or `next` if there is none
abbrev pub walk_head : List Record → ℕ → ℕ
walk_head [] next = next
walk_head (r ∷ rest) next = walk_head rest r.seat

-- A call of the seat with this number has collected the push list whose newest record was that of the seat `head`: the
-- record r is the oldest, and the call serves it next.
pub record Collects (carrier : Carrier) (head number : ℕ) (r : Record) (v w : View ⊤) : Type 0 where
  pub oldest : IsOldest r w.popped
  pub begins : walk_head w.popped 0 ≡ head
  pub trail : w.trail ≡ v.trail ++ loads_of carrier w.popped 0
  pub state : w.state ≡ record v.state { point = serves carrier number r }
  pub run : RunGoesOn v w

-- From s to t the seat has done so in mutex m. All these records are in the chain, and the carried word names the one after
-- the oldest, as the seat that is served has to find it.
abbrev pub CollectsIn : TableSeat → TableSeat → Pool → ℕ → ℕ → Record → Type 0
CollectsIn s t p m head r =
    (carrier : Carrier) × ((state_of s m).point ≡ TakeLinkLoad carrier head)
    × KnowsMoreOf m
    (λ w k.
    Collects carrier head s.number r (part s.place.me.0 m) w × Sits s.number s.place.id p.limits w.state w
    × (k ≡ rested (drop 1 w.popped)))
    s.place.me t.place.me
