-- What each export does to its handles, and what its answer means. A handle is x before the call and y after it.
use Rattle.std.specs.Prelude.{◌≡◌, ◌≢◌, ◌⊎◌, ℕ, ◌+◌, ◌≤◌, length, true, false, Option, Some, None, Result, Ok, Err}
use Rattle.std.specs.Arc.{arc_value}
use Rattle.lfm_model.specs.declared.answers.Asked.{Asked}
use Rattle.lfm_model.specs.declared.answers.How.{How}
use Rattle.lfm_model.specs.declared.answers.Locked.{Locked}
use Rattle.lfm_model.specs.declared.refusals.NewFault.{NewFault}
use Rattle.lfm_model.specs.declared.refusals.Refusal.{Refusal}
use Rattle.lfm_words.specs.declared.pop_lists.Record.{Record}
use Rattle.lfm_pool.specs.declared.any_depth.Release.{Release}
use Rattle.lfm_pool.specs.declared.free_seats.FreeSeats.{FreeSeats}
use Rattle.lfm_pool.specs.declared.pool.Pool.{Pool}
use Rattle.lfm_pool.specs.declared.seat.PoolSeat.{PoolSeat}
use Rattle.lfm_pool.specs.declared.unlock.Released.{Released}
use Rattle.lfm_pool.specs.AnyDepth.{granted_in}
use Rattle.lfm_pool.specs.Ask.{MakesBesideFailuresIn}
use Rattle.lfm_pool.specs.Belongs.{IsMutex}
use Rattle.lfm_pool.specs.Bounds.{most_takes}
use Rattle.lfm_pool.specs.Calls.{Asks, Receives, SamePoolSeat, Tries, Unlocks}
use Rattle.lfm_pool.specs.Depths.{HasDepthIn}
use Rattle.lfm_pool.specs.Moves.{MakesAtMostIn}
use Rattle.lfm_pool.specs.NewSeats.{AreFreeSeats, IsPoolSize, TakesSeat}
use Rattle.lfm_pool.specs.Seats.{popped_of}
use Rattle.lfm_pool.specs.WakeUps.{WakesSeatOf}
use Rattle.lfm_c.specs.declared.pool_handles.PoolHandle.{PoolHandle}
use Rattle.lfm_c.specs.declared.pool_handles.PoolSeatHandle.{PoolSeatHandle}
use Rattle.lfm_c.specs.declared.pool_handles.PoolSeated.{PoolSeated}
use Rattle.lfm_c.specs.declared.pool_handles.WholePool.{WholePool}
use Rattle.lfm_c.specs.declared.status.Status.{Status}
use Rattle.lfm_c.specs.Status.{asked, code, faulted, locked, received, told, Names}

-- The calls of a seat

-- the number is that of no mutex of the pool
abbrev pub IsNoMutex : ℕ → Pool → Type 0
IsNoMutex m p = p.mutexes ≤ m

-- A call of a seat of this pool in mutex m that returns n, with the relation P. With a number of no mutex it only returns that
-- the number is outside its limits. The pool of the seat does not change.
abbrev pub OfMutexIn : (PoolSeat → PoolSeat → Pool → ℕ → Type 0) → ℕ → PoolSeated → PoolSeated → ℕ → Type 0
OfMutexIn P m a b n =
    (IsNoMutex m (arc_value a.pool) × (b ≡ a) × (n ≡ code Status.Limit))
    ⊎ (IsMutex m (arc_value a.pool) × (b.pool ≡ a.pool) × SamePoolSeat a.seat b.seat × P a.seat b.seat (arc_value a.pool) n)

-- such a call by a handle. With a blank handle it only returns that the handle is blank
abbrev pub OfPoolSeated : (PoolSeat → PoolSeat → Pool → ℕ → Type 0) → ℕ → Option PoolSeated → Option PoolSeated → ℕ → Type 0
OfPoolSeated P m None y n = (y ≡ None) × (n ≡ code Status.Blank)
OfPoolSeated P m (Some a) None n = ⊥
OfPoolSeated P m (Some a) (Some b) n = OfMutexIn P m a b n

-- the number of the seat of this wake-up
abbrev pub seat_of : Option Record → Option ℕ
seat_of None = None
seat_of (Some r) = Some r.seat

-- A call of a seat that may grant another seat the mutex. Its answer names the seat of the wake-up that it leaves, which is a
-- seat of the pool. The relation P is between the status and this wake-up too.
abbrev pub WakesInPool : (PoolSeat → PoolSeat → Pool → Status → Option Record → Type 0) → PoolSeat → PoolSeat → Pool → ℕ → Type 0
WakesInPool P s t p n = (status : Status) × (w : Option Record) × P s t p status w × WakesSeatOf w p × (n ≡ told status (seat_of w)) × Names (seat_of w) n

abbrev pub TellsPoolAsk : PoolSeatHandle → ℕ → PoolSeatHandle → ℕ → Type 0
TellsPoolAsk x m y n =
    OfPoolSeated (WakesInPool (λ s t p status w. (r : Result Asked Refusal) × Asks r w s t p m × MakesBesideFailuresIn (10 + length (popped_of t.table_seat m)) s.table_seat t.table_seat m × (status ≡ asked r))) m x.seated y.seated n

abbrev pub TellsPoolReceive : PoolSeatHandle → ℕ → PoolSeatHandle → ℕ → Type 0
TellsPoolReceive x m y n =
    OfPoolSeated (λ s t p k. (r : Result (Option How) Refusal) × Receives r s t p m × MakesAtMostIn 3 s.table_seat t.table_seat m × (k ≡ code (received r))) m x.seated y.seated n

abbrev pub TellsPoolTry : PoolSeatHandle → ℕ → PoolSeatHandle → ℕ → Type 0
TellsPoolTry x m y n =
    OfPoolSeated (λ s t p k. (r : Result Locked Refusal) × Tries r s t p m × MakesAtMostIn 6 s.table_seat t.table_seat m × (k ≡ code (locked r))) m x.seated y.seated n

-- the status of an unlock that gave up the last hold
abbrev pub released_in : Released → Status
released_in Released.Free = Status.Done
released_in (Released.Granted r) = Status.Granted
released_in Released.Posted = Status.Posted
released_in Released.TakenOver = Status.Posted

-- the status of an answer of `unlock`
abbrev pub unlocked_in : Result Release Refusal → Status
unlocked_in (Ok (Release.Last released)) = released_in released
unlocked_in (Ok (Release.Still depth)) = Status.Still
unlocked_in (Err r) = Status.Refused r

-- the record that an unlock with this answer has granted
abbrev pub granted_by : Result Release Refusal → Option Record
granted_by (Ok r) = granted_in r
granted_by (Err r) = None

-- the number above the status is that of the granted seat with an answer Granted, and none with any other answer or a refusal
abbrev pub TellsPoolUnlock : PoolSeatHandle → ℕ → PoolSeatHandle → ℕ → Type 0
TellsPoolUnlock x m y n =
    OfPoolSeated (WakesInPool (λ s t p status w. (r : Result Release Refusal) × Unlocks r s t p m × MakesAtMostIn (9 + length (popped_of t.table_seat m)) s.table_seat t.table_seat m × (status ≡ unlocked_in r) × (w ≡ granted_by r))) m x.seated y.seated n

-- The depth

-- both are the same seat, which has made no step and no take in between, and sleeps where it slept
abbrev pub KnowsTheSame : PoolSeat → PoolSeat → Type 0
KnowsTheSame s t = (t.asleep_in ≡ s.asleep_in) × (t.takes ≡ s.takes) × (t.table_seat.place.me ≡ s.table_seat.place.me)

-- how many times a seat holds mutex m: none if it sleeps there
abbrev pub DepthOf : PoolSeat → Pool → ℕ → ℕ → Type 0
DepthOf s p m n = (s.asleep_in ≢ Some m → HasDepthIn s.table_seat p m n) × (s.asleep_in ≡ Some m → n ≡ 0)

-- a read of the depth of a seat, which returns 0 for a number of no mutex
abbrev pub ReadsDepthIn : ℕ → PoolSeated → PoolSeated → ℕ → Type 0
ReadsDepthIn m a b n =
    (IsNoMutex m (arc_value a.pool) × (b ≡ a) × (n ≡ 0))
    ⊎ (IsMutex m (arc_value a.pool) × (b.pool ≡ a.pool) × SamePoolSeat a.seat b.seat × KnowsTheSame a.seat b.seat × DepthOf a.seat (arc_value a.pool) m n)

abbrev pub ReadsDepth : ℕ → Option PoolSeated → Option PoolSeated → ℕ → Type 0
ReadsDepth m None y n = (y ≡ None) × (n ≡ 0)
ReadsDepth m (Some a) None n = ⊥
ReadsDepth m (Some a) (Some b) n = ReadsDepthIn m a b n

abbrev pub TellsPoolDepth : PoolSeatHandle → ℕ → PoolSeatHandle → ℕ → Type 0
TellsPoolDepth x m y n = ReadsDepth m x.seated y.seated n

-- What a read leaves as it was

-- a read of a seat's number: it returns 0 if the handle is blank
abbrev pub ReadsPoolNumber : Option PoolSeated → ℕ → Type 0
ReadsPoolNumber None n = n ≡ 0
ReadsPoolNumber (Some a) n = n ≡ a.seat.table_seat.number

abbrev pub TellsPoolNumber : PoolSeatHandle → PoolSeatHandle → ℕ → Type 0
TellsPoolNumber x y n = (y ≡ x) × ReadsPoolNumber x.seated n

-- a read of the count of mutex m: it returns 0 if the handle is blank or m is the number of no mutex, and nothing else is
-- guaranteed of the result
abbrev pub ReadsPoolCount : ℕ → Option PoolSeated → ℕ → Type 0
ReadsPoolCount m None n = n ≡ 0
ReadsPoolCount m (Some a) n = IsNoMutex m (arc_value a.pool) → n ≡ 0

abbrev pub TellsPoolCount : PoolSeatHandle → ℕ → PoolSeatHandle → ℕ → Type 0
TellsPoolCount x m y n = (y ≡ x) × ReadsPoolCount m x.seated n

-- The pool and its seats

-- these are all seats of this pool, none of which is taken
abbrev pub AreAllFree : Option FreeSeats → Pool → Type 0
AreAllFree None p = ⊥
AreAllFree (Some f) p = AreFreeSeats f p × (f.taken ≡ 0)

-- a new pool, none of whose seats is taken
abbrev pub OpenedPool : ℕ → ℕ → WholePool → Type 0
OpenedPool mutexes seats w =
    ((arc_value w.pool).mutexes ≡ mutexes) × ((arc_value w.pool).limits ≡ record { seats = seats; budget = most_takes }) × AreAllFree w.free (arc_value w.pool)

-- why a pool could not be opened
abbrev pub PoolFaults : ℕ → ℕ → NewFault → Type 0
PoolFaults mutexes seats NewFault.Limit = IsPoolSize mutexes seats ≡ false
PoolFaults mutexes seats NewFault.Memory = IsPoolSize mutexes seats ≡ true

abbrev pub OpensBlankPool : ℕ → ℕ → Option WholePool → ℕ → Type 0
OpensBlankPool mutexes seats None n = (e : NewFault) × PoolFaults mutexes seats e × (n ≡ code (faulted e))
OpensBlankPool mutexes seats (Some w) n = OpenedPool mutexes seats w × (IsPoolSize mutexes seats ≡ true) × (n ≡ code Status.Done)

abbrev pub OpensPoolInto : Option WholePool → ℕ → ℕ → Option WholePool → ℕ → Type 0
OpensPoolInto None mutexes seats y n = OpensBlankPool mutexes seats y n
OpensPoolInto (Some w) mutexes seats y n = (y ≡ Some w) × (n ≡ code Status.Taken)

abbrev pub TellsPoolOpen : PoolHandle → ℕ → ℕ → PoolHandle → ℕ → Type 0
TellsPoolOpen x mutexes seats y n = OpensPoolInto x.whole mutexes seats y.whole n

-- of the free seats of a pool one is taken, and the others are left
abbrev pub TakesFree : Option FreeSeats → Pool → PoolSeat → Option FreeSeats → Type 0
TakesFree None p s left = ⊥
TakesFree (Some f) p s left = TakesSeat f p s left

-- Why no seat is taken: NoSeat means that none is left. With Memory one is left, and the pool has too many references for one
-- more.
abbrev pub StaysWhole : Option FreeSeats → Status → Type 0
StaysWhole None status = status ≡ Status.NoSeat
StaysWhole (Some f) status = status ≡ Status.Memory

-- a take of the next seat, which refers to the pool from then on
abbrev pub TakesNext : WholePool → WholePool → Result PoolSeated Status → Type 0
TakesNext w v (Ok a) = (v.pool ≡ w.pool) × (arc_value a.pool ≡ arc_value w.pool) × TakesFree w.free (arc_value w.pool) a.seat v.free
TakesNext w v (Err status) = (v ≡ w) × StaysWhole w.free status

abbrev pub TakesOfPool : WholePool → Option WholePool → Option PoolSeated → ℕ → Type 0
TakesOfPool w None t n = ⊥
TakesOfPool w (Some v) None n = (status : Status) × TakesNext w v (Err status) × (n ≡ code status)
TakesOfPool w (Some v) (Some a) n = TakesNext w v (Ok a) × (n ≡ code Status.Done)

abbrev pub TakesFromPool : Option WholePool → Option PoolSeated → Option WholePool → Option PoolSeated → ℕ → Type 0
TakesFromPool w (Some a) v t n = (v ≡ w) × (t ≡ Some a) × (n ≡ code Status.Taken)
TakesFromPool None None v t n = (v ≡ None) × (t ≡ None) × (n ≡ code Status.Blank)
TakesFromPool (Some w) None v t n = TakesOfPool w v t n

abbrev pub TellsPoolTake : PoolHandle → PoolSeatHandle → PoolHandle → PoolSeatHandle → ℕ → Type 0
TellsPoolTake p s p' s' n = TakesFromPool p.whole s.seated p'.whole s'.seated n
