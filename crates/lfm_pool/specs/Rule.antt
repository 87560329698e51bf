-- The rule of a pool, and what its first seat and a seat that is split off know.
use Rattle.std.specs.Prelude.{◌≡◌, ◌≢◌, ℕ, ◌+◌, ◌*◌, ◌<◌, ◌≤◌, List, true, false, drop, length, map, replicate, slice_index}
use mathlib.Core.Option.{some}
use lib.ListN.{get_elem?}
use Rattle.atomic_table.specs.Table.{State}
use Rattle.lfm_words.specs.declared.pop_lists.Record.{Record}
use Rattle.lfm_protocol.specs.declared.limits.Limits.{Limits}
use Rattle.lfm_laws.specs.table.Carried.{carries_value}
use Rattle.lfm_table.specs.declared.seat_view.Role.TheVariants.{User}
use Rattle.lfm_table.specs.Rule.{first_view, split_view, with_split}
use Rattle.lfm_pool.specs.declared.view.Known.{Known}
use Rattle.lfm_pool.specs.declared.view.PoolView.{PoolView}
use Rattle.lfm_pool.specs.Chain.{IsChain, first_seat}
pub use Rattle.lfm_pool.specs.Layout.{own_at, link_at, wake_at}
use Rattle.lfm_pool.specs.Tables.{MutexTable, IsKept, IsUncollected, note, part, rests, unnoted}

-- The rule

-- no seat carries mutex m, and none holds it
abbrev pub NobodyCarries : ℕ → List PoolView → Type 0
NobodyCarries m views = (j : ℕ) (v : PoolView) → get_elem? views j ≡ some v → carries_value (part v m).state ≡ false

-- Each mutex has a table of its own, which keeps the rule of such a table. The words of the pool agree with those of these
-- tables. A seat is in a call, or sleeps, in at most one mutex, so that it needs only one link word and one wake word.
-- - mutexes, seats: how many there are
-- - tables, kept, sized: the table of each mutex, its rule and the number of its words
-- - long, wide, counted: the number of the pool's words, of the mutexes that a seat knows, and of the seats that a table has
-- - parts: what a seat knows of a mutex is its view at the table of that mutex
-- - own: the words of a mutex are those of its table. The handoff words of a pool are not: `HeldPosts` in Posts says which
--   it has, and that this rule holds with the handoff words of the tables in their places.
-- - elsewhere: a seat that does not rest in a mutex rests in all others
-- - popped, listed: the popped records of each mutex, oldest first, as the core of its table has them
-- - linked: from its link store until its record is collected, the link word of a seat is that of the mutex in which it does
--   not rest
-- - dues, chain: the popped records of a mutex are a chain in the link words, except the first `dues`: the record whose link
--   a call has loaded last
-- - noted: a seat that carries a mutex notes how many these are, and what the carried word holds
-- - idle: if no seat carries a mutex, all its popped records are in the chain, and the carried word has the seat of the
--   oldest
-- - wakes: the wake word of a seat is that of the mutex in which it does not rest
-- - quiet, fresh: the wake word of a seat that rests in all mutexes, or is not split off yet, is QUIET
pub record HeldPool (s : State ℕ PoolView) : Type 0 where
  pub mutexes : ℕ
  pub seats : ℕ
  pub tables : ℕ → MutexTable
  pub kept : (m : ℕ) → m < mutexes → IsKept (tables m)
  pub sized : (m : ℕ) → m < mutexes → length (tables m).words ≡ 4 + 2 * seats
  pub long : length s.words ≡ mutexes * 8 + seats * 2
  pub wide : (j : ℕ) (v : PoolView) → get_elem? s.views j ≡ some v → length v.parts ≡ mutexes
  pub counted : (m : ℕ) → m < mutexes → length (tables m).views ≡ length s.views
  pub parts : (m j : ℕ) (v : PoolView) → m < mutexes → get_elem? s.views j ≡ some v
      → get_elem? (tables m).views j ≡ some (part v m)
  pub own : (m k : ℕ) → m < mutexes → k < 4 → slice_index s.words (own_at m k) ≡ slice_index (tables m).words k
  pub elsewhere : (m n j : ℕ) (v : PoolView) → m < mutexes → n < mutexes → m ≢ n → get_elem? s.views j ≡ some v
      → rests (part v m) ≡ false → rests (part v n) ≡ true
  pub popped : ℕ → List Record
  pub listed : (m : ℕ) (less : m < mutexes) → (kept m less).core.popped ≡ popped m
  pub linked : (m j : ℕ) (v : PoolView) → m < mutexes → get_elem? s.views j ≡ some v
      → IsUncollected (tables m) seats (popped m) j (part v m)
      → slice_index s.words (link_at mutexes j) ≡ slice_index (tables m).words (4 + j)
  pub dues : ℕ → ℕ
  pub chain : (m : ℕ) → m < mutexes → IsChain mutexes s.words (drop (dues m) (popped m))
  pub noted : (m j : ℕ) (v : PoolView) → m < mutexes → get_elem? s.views j ≡ some v
      → carries_value (part v m).state ≡ true
      → note v m ≡ record { due = dues m; carried = slice_index s.words (own_at m 4) }
  pub idle : (m : ℕ) → m < mutexes → NobodyCarries m s.views
      → (dues m ≡ 0) × (slice_index s.words (own_at m 4) ≡ first_seat (popped m))
  pub wakes : (m j : ℕ) (v : PoolView) → m < mutexes → get_elem? s.views j ≡ some v → rests (part v m) ≡ false
      → slice_index s.words (wake_at mutexes j) ≡ slice_index (tables m).words (4 + seats + j)
  pub quiet : (j : ℕ) (v : PoolView) → get_elem? s.views j ≡ some v → ((m : ℕ) → m < mutexes → rests (part v m) ≡ true)
      → slice_index s.words (wake_at mutexes j) ≡ 0
  pub fresh : (j : ℕ) → length s.views ≤ j → j < seats → slice_index s.words (wake_at mutexes j) ≡ 0

-- The opening

-- what the first seat of a pool of free mutexes knows
abbrev pub first_pool_view : ℕ → Limits → PoolView
first_pool_view mutexes l = record { parts = replicate mutexes (unnoted (first_view l tt)); posts = 0; found = 0 }

-- Seats that are split off the first one

-- what the first seat knows after it, and what the new seat knows
abbrev pub left_view : PoolView → PoolView
left_view v = record v { parts = map (λ (k : Known). record k { view = with_split k.view }) v.parts }

abbrev pub right_view : PoolView → PoolView
right_view v = record { parts = map (λ (k : Known). unnoted (split_view k.view)) v.parts; posts = 0; found = 0 }

-- the first seat may split one more seat off
abbrev pub MaySplit : PoolView → Type 0
MaySplit v =
    (0 < length v.parts)
    × ((m : ℕ) → m < length v.parts → ((part v m).role ≡ User) × ((part v m).made + 2 ≤ (part v m).limits.seats))
