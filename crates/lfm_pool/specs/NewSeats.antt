-- The seats of a new pool, those that nobody has taken, and how large a pool may be.
use Rattle.std.specs.Prelude.{◌≡◌, ℕ, ◌+◌, ◌-◌, ◌<◌, ◌^◌, Bool, ◌&&◌, nat_le, [], replicate, ⊤, Option, Some, None}
use Rattle.lfm_protocol.specs.declared.limits.Limits.{Limits}
use Rattle.lfm_protocol.specs.Limits.{max_seats}
use Rattle.lfm_table.specs.declared.seat_view.View.{View}
use Rattle.lfm_table.specs.Rule.{first_view}
use Rattle.lfm_pool.specs.declared.free_seats.FreeSeats.{FreeSeats}
use Rattle.lfm_pool.specs.declared.pool.Pool.{Pool}
use Rattle.lfm_pool.specs.declared.seat.PoolSeat.{PoolSeat}
use Rattle.lfm_pool.specs.declared.view.PoolView.{PoolView}
use Rattle.lfm_pool.specs.Belongs.{IsNew, OfPool}
use Rattle.lfm_pool.specs.Tables.{unnoted}

-- a seat of this pool that has made no call and no take, and is awake
pub record IsNewSeat (number : ℕ) (p : Pool) (s : PoolSeat) : Type 0 where
  pub belongs : OfPool s.table_seat p
  pub new : IsNew number p s.table_seat
  pub no_take : s.takes ≡ 0
  pub awake : s.asleep_in ≡ None

-- a pool has at least one mutex and fewer than 2^32, and 1 to 4,095 seats
abbrev pub IsPoolSize : ℕ → ℕ → Bool
IsPoolSize mutexes seats = nat_le 1 mutexes && nat_le mutexes (2 ^ 32 - 1) && nat_le 1 seats && nat_le seats max_seats

-- The seats that nobody has taken

-- the view of the first seat at one mutex after it has split k seats off
abbrev pub first_after : Limits → ℕ → View ⊤
first_after l k = record (first_view l tt) { made = k }

-- what a seat of a pool with this many mutexes knows, if it knows the same of each
abbrev pub same_of_each : ℕ → View ⊤ → PoolView
same_of_each mutexes v = record { parts = replicate mutexes (unnoted v); posts = 0; found = 0 }

-- The free seats of this pool: its first seat, which has made no step and has split off the seats that are taken. The last one
-- that is taken is the first seat itself, so fewer are taken than the pool has.
pub record AreFreeSeats (f : FreeSeats) (p : Pool) : Type 0 where
  pub table : f.first.place.table_id ≡ p.table.shared.table_id
  pub id : f.first.place.id ≡ 0
  pub number : f.first.number ≡ 1
  pub knows : f.first.place.me ≡ (same_of_each p.mutexes (first_after p.limits f.taken), [])
  pub left : f.taken < p.limits.seats
  pub mutexes : 0 < p.mutexes
  pub budget : 0 < p.limits.budget

-- Of these free seats of the pool the seat s has been taken, and these are left. While others are left, the numbers of the taken
-- seats are 2, 3 and so on; the last one has the number 1.
abbrev pub TakesSeat : FreeSeats → Pool → PoolSeat → Option FreeSeats → Type 0
TakesSeat f p s (Some g) = (f.taken + 1 < p.limits.seats) × IsNewSeat (f.taken + 2) p s × AreFreeSeats g p × (g.taken ≡ f.taken + 1)
TakesSeat f p s None = (f.taken + 1 ≡ p.limits.seats) × IsNewSeat 1 p s
