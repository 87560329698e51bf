-- What a run of waits with time limits must leave: how many of them were woken and how many timed out, how many wakes took one
-- off the list, and what the condvar counted.
use Rattle.std.specs.Prelude.{ℕ, ◌-◌, Bool, false, nat_eq, nat_le, ◌&&◌, Option, Some, None}
use Rattle.lfm_plain_condvar.specs.declared.waiters.WaitCounts.{WaitCounts}
use Rattle.lfm_stress.specs.declared.waits.WaitSums.{WaitSums}

-- the condvar counted this number of waits, and as many ends of each kind as the threads did
abbrev pub counts_all : ℕ → WaitSums → Option WaitCounts → Bool
counts_all waits sums None = false
counts_all waits sums (Some counts) = nat_eq counts.added waits && nat_eq counts.woken sums.woken && nat_eq counts.timed_out sums.timed_out

-- No wake is lost: each of this number of waits was woken or timed out, each wake that took one off the list ended one wait,
-- and the condvar counted the same.
abbrev pub has_all : ℕ → WaitSums → Bool
has_all waits sums =
    nat_le sums.woken waits && nat_eq sums.timed_out (waits - sums.woken) && nat_eq sums.took sums.woken && counts_all waits sums sums.counts
