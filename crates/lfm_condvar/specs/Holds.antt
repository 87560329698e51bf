-- What a cond seat knows of the list, and how a hold of the inner mutex changes it.
use Rattle.std.specs.Prelude.{◌≡◌, ℕ, ◌+◌, ◌<◌, ◌≤◌, Ok, Some, is_some, true, false, slice_index}
use Rattle.lfm_model.specs.declared.answers.How.{How}
use Rattle.lfm_model.specs.declared.answers.Locked.{Locked}
use Rattle.lfm_model.specs.declared.answers.Unlocked.{Unlocked}
use Rattle.lfm_protocol.specs.declared.answers.Answer.{Answer}
use Rattle.lfm_protocol.specs.declared.answers.Call.{Call}
use Rattle.lfm_protocol.specs.declared.answers.Turn.TheVariants.{Ended}
use Rattle.lfm_protocol.specs.declared.limits.Limits.{Limits}
use Rattle.lfm_mutex.specs.calls.Barging.{BargesBy}
use Rattle.lfm_mutex.specs.calls.Sight.{Sight}
use Rattle.lfm_mutex.specs.calls.Trails.{Makes, MakesAtMost}
use Rattle.lfm_condvar.specs.declared.waiters.Waiters.{Waiters}
use Rattle.lfm_condvar.specs.Keeping.{WaitersFollow, Since}

-- the list has a count for the cond seat, and the cond seat has added no more tickets than it has made takes
pub record CountsKnown (s : Sight Waiters) (l : Waiters) : Type 0 where
  pub low : 0 < s.number
  pub high : s.number ≤ l.seats
  pub few : slice_index l.counts.items s.number ≤ s.takes

-- what is true of each cond seat between its calls: it doesn't hold, it is awake, and it knows the list that it left last
pub record CondKept (s : Sight Waiters) : Type 0 where
  pub out : s.depth ≡ 0
  pub awake : s.asleep ≡ false
  pub there : is_some s.last ≡ true
  pub known : (l : Waiters) → s.last ≡ Some l → CountsKnown s l

-- the list that it left last is of a condvar with these limits
abbrev pub MadeFor : Limits → Sight Waiters → Type 0
MadeFor limits s = (l : Waiters) → s.last ≡ Some l → (l.seats ≡ limits.seats) × (l.budget ≡ limits.budget)

-- One hold of the inner mutex, which costs one take: the cond seat, with the sight s before and t after, found the list v and
-- left the list w. Its sight t still has the list that it found. Since it last left a list, other cond seats only added waiters
-- behind it and took the oldest off it, and none has counted tickets for this cond seat
pub record HeldOnce (budget : ℕ) (s t : Sight Waiters) (v w : Waiters) : Type 0 where
  pub finds : (l : Waiters) → s.last ≡ Some l → Since s.number l v
  pub leaves : t.last ≡ Some w
  pub spare : s.takes < budget
  pub takes : t.takes ≡ s.takes + 1
  pub number : t.number ≡ s.number
  pub found : t.found ≡ Some v

-- The cond seat locks the inner mutex by the steps of lock_barging alone, with at most `tries` tries
abbrev pub LocksList : Limits → ℕ → Sight Waiters → Sight Waiters → Type 0
LocksList own tries s t = (how : How) × BargesBy own tries s t (Ok (Locked.Held how))

-- and unlocks it by the steps of unlock alone
abbrev pub LeavesList : Limits → Sight Waiters → Sight Waiters → Type 0
LeavesList own s t = (u : Unlocked) × Makes own Call.Unlock s t (Ended (Answer.Unlocked u)) × MakesAtMost (own.seats + 7) s t

-- The steps of the cond seat in one hold: it locks the inner mutex once, with at most `tries` tries, and unlocks it once. In
-- between it changes the list that it holds, and nothing else in its sight
pub record StepsOfOneHold (own : Limits) (tries : ℕ) (s t : Sight Waiters) : Type 0 where
  pub locked : Sight Waiters
  pub changed : Sight Waiters
  pub locks : LocksList own tries s locked
  pub changes : changed ≡ record locked { value = changed.value }
  pub leaves : LeavesList own changed t

-- The cond seat had the sight s before it locked the inner mutex, and has the sight t now: it found the list v and now holds
-- the list w
pub record InHand (limits : Limits) (s t : Sight Waiters) (v w : Waiters) : Type 0 where
  pub value : t.value ≡ Some w
  pub last : t.last ≡ Some v
  pub found : t.found ≡ Some v
  pub finds : (l : Waiters) → s.last ≡ Some l → Since s.number l v
  pub seats : v.seats ≡ limits.seats
  pub budget : v.budget ≡ limits.budget
  pub low : 0 < s.number
  pub high : s.number ≤ v.seats
  pub few : slice_index v.counts.items s.number ≤ s.takes
  pub number : t.number ≡ s.number
  pub depth : t.depth ≡ 1
  pub awake : t.asleep ≡ false
  pub takes : t.takes ≡ s.takes + 1
  pub spare : s.takes < limits.budget

-- how a cond seat that holds may have changed the list that it found: at most one ticket was counted for it
abbrev pub Rewrites : Sight Waiters → Sight Waiters → Waiters → Waiters → Type 0
Rewrites s t v w = (s.value ≡ Some v) × (t ≡ record s { value = Some w }) × WaitersFollow s.number v w × (slice_index w.counts.items s.number ≤ slice_index v.counts.items s.number + 1)
