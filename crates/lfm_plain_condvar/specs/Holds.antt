-- What a seat knows of the list, and one hold of the inner mutex.
use Rattle.std.specs.Prelude.{◌≡◌, ℕ, ◌+◌, ◌<◌, ◌≤◌, Ok, Some, is_some, true, false}
use Rattle.atomic_table.specs.Seated.{TableId}
use Rattle.lfm_model.specs.declared.answers.How.{How}
use Rattle.lfm_model.specs.declared.answers.Locked.{Locked}
use Rattle.lfm_model.specs.declared.answers.Unlocked.{Unlocked}
use Rattle.lfm_protocol.specs.declared.answers.Answer.{Answer}
use Rattle.lfm_protocol.specs.declared.answers.Call.{Call}
use Rattle.lfm_protocol.specs.declared.answers.Turn.TheVariants.{Ended}
use Rattle.lfm_protocol.specs.declared.limits.Limits.{Limits}
use Rattle.lfm_mutex.specs.calls.Barging.{BargesBy}
use Rattle.lfm_mutex.specs.calls.Sight.{Sight}
use Rattle.lfm_mutex.specs.calls.Trails.{Makes, MakesAtMost}
use Rattle.lfm_plain_condvar.specs.declared.waiters.Waiters.{Waiters}
use Rattle.lfm_plain_condvar.specs.Keeping.{Since, WaitersFollow}

-- the list is of these parkers, for n seats
abbrev pub IsOf : TableId → ℕ → Waiters → Type 0
IsOf z n l = (l.seats ≡ n) × (l.name.root.table_id ≡ z)

-- what is true of each seat between its calls: it doesn't hold, it is awake, and it knows the list that it left last
pub record SeatKept (z : TableId) (n : ℕ) (s : Sight Waiters) : Type 0 where
  pub out : s.depth ≡ 0
  pub awake : s.asleep ≡ false
  pub low : 0 < s.number
  pub high : s.number ≤ n
  pub there : is_some s.last ≡ true
  pub made : (l : Waiters) → s.last ≡ Some l → IsOf z n l

-- One hold of the list, which costs one take: the seat, with the sight s before and t after, found the list v and left the
-- list w. Since it last left a list, others have changed it only as `Since` says
pub record HeldOnce (budget : ℕ) (s t : Sight Waiters) (v w : Waiters) : Type 0 where
  pub finds : (l : Waiters) → s.last ≡ Some l → Since s.number l v
  pub found : t.found ≡ Some v
  pub leaves : t.last ≡ Some w
  pub spare : s.takes < budget
  pub takes : t.takes ≡ s.takes + 1
  pub number : t.number ≡ s.number

-- a seat locks the list by the steps of lock_barging alone, with at most `tries` tries
abbrev pub LocksList : Limits → ℕ → Sight Waiters → Sight Waiters → Type 0
LocksList own tries s t = (how : How) × BargesBy own tries s t (Ok (Locked.Held how))

-- a seat unlocks its mutex by the steps of unlock alone
abbrev pub Unlocks : {T : Type 0} → Limits → Sight T → Sight T → Type 0
Unlocks own s t = (u : Unlocked) × Makes own Call.Unlock s t (Ended (Answer.Unlocked u)) × MakesAtMost (own.seats + 7) s t

-- The steps of the seat in one hold: it locks the inner mutex once, and unlocks it once. In between it changes the list that
-- it holds, and nothing else in its sight
pub record StepsOfOneHold (own : Limits) (tries : ℕ) (s t : Sight Waiters) : Type 0 where
  pub locked : Sight Waiters
  pub changed : Sight Waiters
  pub locks : LocksList own tries s locked
  pub changes : changed ≡ record locked { value = changed.value }
  pub leaves : Unlocks own changed t

-- the seat had the sight s before it locked the inner mutex, and has the sight t now: it found the list v and now holds w
pub record InHand (z : TableId) (n budget : ℕ) (s t : Sight Waiters) (v w : Waiters) : Type 0 where
  pub value : t.value ≡ Some w
  pub last : t.last ≡ Some v
  pub found : t.found ≡ Some v
  pub finds : (l : Waiters) → s.last ≡ Some l → Since s.number l v
  pub is_of : IsOf z n v
  pub low : 0 < s.number
  pub high : s.number ≤ n
  pub number : t.number ≡ s.number
  pub depth : t.depth ≡ 1
  pub awake : t.asleep ≡ false
  pub takes : t.takes ≡ s.takes + 1
  pub spare : s.takes < budget

-- how a seat that holds may have changed the list that it found
abbrev pub Rewrites : Sight Waiters → Sight Waiters → Waiters → Waiters → Type 0
Rewrites s t v w = (s.value ≡ Some v) × (t ≡ record s { value = Some w }) × WaitersFollow s.number v w
