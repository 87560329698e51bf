-- How the list is changed, by a call and by other cond seats.
use Rattle.std.specs.Prelude.{◌≡◌, ◌≢◌, ℕ, ◌+◌, List, [], ◌∷◌, ◌++◌, length, slice_index, slice_set}
use Rattle.lfm_condvar.specs.declared.waiters.Waiter.{Waiter}
use Rattle.lfm_condvar.specs.declared.waiters.Waiters.{Waiters}
use Rattle.lfm_condvar.specs.Lists.{GoOnFrom, waiter}

-- The list changed only at its ends: since it was v, the waiters `new` were added behind it, with the next tickets, and the
-- oldest ones, `gone`, left it. Those that left are counted as sent
pub record GoesOnInOrder (v w : Waiters) : Type 0 where
  pub new : List Waiter
  pub gone : List Waiter
  pub list : v.list.items ++ new ≡ gone ++ w.list.items
  pub tickets : GoOnFrom v.added new
  pub added : w.added ≡ v.added + length new
  pub sent : w.sent ≡ v.sent + length gone

-- how the cond seat s may change the list: no ticket is counted for another cond seat
pub record WaitersFollow (s : ℕ) (v w : Waiters) : Type 0 where
  pub seats : w.seats ≡ v.seats
  pub budget : w.budget ≡ v.budget
  pub order : GoesOnInOrder v w
  pub others : (k : ℕ) → k ≢ s → slice_index w.counts.items k ≡ slice_index v.counts.items k

-- how cond seats other than s may have changed the list from v to w
pub record Since (s : ℕ) (v w : Waiters) : Type 0 where
  pub seats : w.seats ≡ v.seats
  pub budget : w.budget ≡ v.budget
  pub order : GoesOnInOrder v w
  pub own : slice_index w.counts.items s ≡ slice_index v.counts.items s

-- the user seat was appended with the next ticket, which was counted for the cond seat `by`
pub record Appended (by user : ℕ) (v w : Waiters) : Type 0 where
  pub list : w.list.items ≡ v.list.items ++ waiter user w.added ∷ []
  pub added : w.added ≡ v.added + 1
  pub sent : w.sent ≡ v.sent
  pub counts : w.counts.items ≡ slice_set v.counts.items by (slice_index v.counts.items by + 1)
  pub seats : w.seats ≡ v.seats
  pub budget : w.budget ≡ v.budget

-- these were removed, oldest first
pub record Taken (gone : List Waiter) (v w : Waiters) : Type 0 where
  pub list : v.list.items ≡ gone ++ w.list.items
  pub sent : w.sent ≡ v.sent + length gone
  pub added : w.added ≡ v.added
  pub counts : w.counts ≡ v.counts
  pub seats : w.seats ≡ v.seats
  pub budget : w.budget ≡ v.budget

-- a list in which no seat waits or has waited
abbrev pub IsNew : Waiters → Type 0
IsNew v = (v.list.items ≡ []) × (v.sent ≡ 0) × (v.added ≡ 0)
