-- What the contracts say of a seat that carries a mutex, or holds it, and touches its chain and its carried word.
use Rattle.std.specs.Prelude.{◌≡◌, ℕ, List, true}
use Rattle.lfm_words.specs.declared.pop_lists.Record.{Record}
use Rattle.lfm_protocol.specs.Limits.{max_seats}
use Rattle.atomic_table.specs.Table.{Me, Allows}
use Rattle.lfm_laws.specs.table.Carried.{carries_value}
use Rattle.lfm_pool.specs.declared.pool.TableSeat.{TableSeat}
use Rattle.lfm_pool.specs.declared.view.Note.{Note}
use Rattle.lfm_pool.specs.declared.view.PoolView.{PoolView}
use Rattle.lfm_pool.specs.Chain.{AreWithin}
use Rattle.lfm_pool.specs.Posts.{HeldPosts}
use Rattle.lfm_pool.specs.Seats.{state_of}
use Rattle.lfm_pool.specs.Tables.{part, with_part}

-- the seat carries mutex m, or holds it
abbrev pub CarriesIn : TableSeat → ℕ → Type 0
CarriesIn s m = carries_value (state_of s m) ≡ true

-- from s to t the seat knows the same, except its note of mutex m, which is k now
abbrev pub NotesIn : TableSeat → TableSeat → ℕ → Note → Type 0
NotesIn s t m k = t.place.me ≡ (with_part s.place.me.0 m (part s.place.me.0 m) k, s.place.me.1)

-- The access by which the word at this index becomes f of what it was keeps the rule. It finds or stores this number, the
-- seat knows `after` then, and the access tells that these records are of seats.
abbrev pub MayAccess : ℕ → ℕ → Me ℕ PoolView → ℕ → (ℕ → ℕ) → ℕ → PoolView → List Record → Type 0
MayAccess slots id me index f number after within =
    Allows HeldPosts slots id me index f (λ n me'. (f n ≡ number) × (me' ≡ (after, me.1)) × AreWithin max_seats within)
