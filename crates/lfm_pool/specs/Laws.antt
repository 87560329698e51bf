-- The laws of chains.
use Rattle.std.specs.Prelude.{◌≡◌, ⊤, ℕ, zero, suc, ◌-◌, ◌<◌, ◌≤◌, List, [], ◌∷◌, length, map, nat_eq, slice_index, if◌then◌else◌}
use Rattle.atomic_table.specs.Table.{State}
use Rattle.lfm_words.specs.declared.pop_lists.Record.{Record}
use Rattle.lfm_words.specs.Words.{link_of}
use Rattle.lfm_pool.specs.declared.view.PoolView.{PoolView}
use Rattle.lfm_pool.specs.Chain.{HasRecord, first_seat}
use Rattle.lfm_pool.specs.Posts.{HeldPosts}
use Rattle.lfm_pool.specs.Rule.{link_at}

-- the seats that a walk finds which begins at seat t, loads the link word of each seat, and goes on with the seat that the
-- link names; it ends at 0, or after this number of seats
abbrev pub walked : ℕ → List ℕ → ℕ → ℕ → List ℕ
walked mutexes words zero t = []
walked mutexes words (suc most) t =
    if nat_eq t 0
    then []
    else t ∷ walked mutexes words most (link_of (slice_index words (link_at mutexes (t - 1)))).next

abbrev pub seats_of_records : List Record → List ℕ
seats_of_records popped = map (λ (r : Record). r.seat) popped

-- no two of these records are of one seat
abbrev pub AreOfDifferentSeats : List Record → Type 0
AreOfDifferentSeats [] = ⊤
AreOfDifferentSeats (r ∷ rest) = (HasRecord r.seat rest → ⊥) × AreOfDifferentSeats rest

-- In each state of a pool, and for each mutex of which all popped records are in the chain: a walk from the oldest popped
-- record finds the seats of the popped records, the oldest first, each once and no other.
abbrev pub ChainsAreWalked : Type 0
ChainsAreWalked =
    (s : State ℕ PoolView) (h : HeldPosts s) (m : ℕ) → m < h.held.mutexes → h.held.dues m ≡ 0
    → ((most : ℕ) → length (h.held.popped m) ≤ most
    → walked h.held.mutexes s.words most (first_seat (h.held.popped m)) ≡ seats_of_records (h.held.popped m))
    × AreOfDifferentSeats (h.held.popped m)
