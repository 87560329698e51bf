-- A section: a seat locks, a closure changes the value, and the seat gives up that hold.
use Rattle.std.specs.Prelude.{◌≡◌, ℕ, Some, Result, Ok, Err}
use Rattle.lfm_model.specs.declared.answers.Locked.{Locked}
use Rattle.lfm_model.specs.declared.answers.Unlocked.{Unlocked}
use Rattle.lfm_model.specs.declared.refusals.Refusal.{Refusal}
use Rattle.lfm_protocol.specs.declared.answers.Answer.{Answer}
use Rattle.lfm_protocol.specs.declared.answers.Call.{Call}
use Rattle.lfm_protocol.specs.declared.limits.Limits.{Limits}
use Rattle.lfm_mutex.specs.declared.mutex.Mutex.{Mutex}
use Rattle.lfm_mutex.specs.declared.seat.Seat.{Seat}
use Rattle.lfm_mutex.specs.Belongs.{limits_of, tries_of}
use Rattle.lfm_mutex.specs.calls.Barging.{BargesBy}
use Rattle.lfm_mutex.specs.calls.Sight.{Sight, sight, Locks, LocksWaiting, MayRelease, Unlocks}
use Rattle.lfm_mutex.specs.calls.Trails.{LocksBy, MakesCall}

-- the same seat, with the same depth, which sleeps exactly if it slept before
abbrev pub StandsAs : {T : Type 0} → Sight T → Sight T → Type 0
StandsAs s t = (t.number ≡ s.number) × (t.depth ≡ s.depth) × (t.asleep ≡ s.asleep)

-- the sight with this value in hand, and otherwise the same
abbrev pub with_value : {T : Type 0} → Sight T → T → Sight T
with_value s x = record s { value = Some x }

-- `gives v u w`: the closure, called with the value v, may return u and leave the value w. So the value in hand has changed.
abbrev pub Changes : {T U : Type 0} → (T → U → T → Type 0) → Sight T → U → Sight T → Type 0
Changes {T} gives s u t = (v : T) × (w : T) × (s.value ≡ Some v) × gives v u w × (t ≡ with_value s w)

-- how a call of unlock ends, and which steps it makes
abbrev pub UnlocksSo : {T : Type 0} → Limits → Sight T → Sight T → Result Unlocked Refusal → Type 0
UnlocksSo l s t r = Unlocks s t r × MakesCall l (λ x. Answer.Unlocked x) Call.Unlock s t r

module _ {T : Type 0} (follows : ℕ → T → T → Type 0) (fits : T → ℕ → Type 0) (l : Limits) where
  -- the same for lock
  abbrev pub LocksSo : Sight T → Sight T → Result Locked Refusal → Type 0
  LocksSo s t r = LocksWaiting follows fits l.budget s t r × LocksBy l s t r

  -- the same for lock_barging, which makes at most n tries
  abbrev pub BargesSo : ℕ → Sight T → Sight T → Result Locked Refusal → Type 0
  BargesSo n s t r = LocksWaiting follows fits l.budget s t r × BargesBy l n s t r

  -- the same for try_lock
  abbrev pub TriesSo : Sight T → Sight T → Result Locked Refusal → Type 0
  TriesSo s t r = Locks follows fits l.budget s t r × MakesCall l (λ x. Answer.Locked x) Call.TryLock s t r

  -- `locks m r`: the call that locks has answered r, and the seat then had the sight m. `gives v u w`: the closure, called with
  -- the value v, may return u and leave the value w.
  module _ {U : Type 0} (locks : Sight T → Result Locked Refusal → Type 0) (gives : T → U → T → Type 0) where
    -- whatever value the seat finds, the value that the closure leaves may be left
    abbrev pub SectionKeeps : Type 0
    SectionKeeps = (m : Sight T) (locked : Locked) (v w : T) (u : U) → locks m (Ok locked) → m.value ≡ Some v → gives v u w → MayRelease follows fits (with_value m w)

    -- The seat acquired the mutex or deepened its hold, and found a value. The closure changed it and returned u. The seat left
    -- the changed value.
    pub record Section (t : Sight T) (u : U) : Type 0 where
      pub held : Sight T
      pub locked : Locked
      pub found : T
      pub left : T
      pub unlocked : Unlocked
      pub holds : locks held (Ok locked)
      pub finds : held.value ≡ Some found
      pub makes : gives found u left
      pub leaves : UnlocksSo l (with_value held left) t (Ok unlocked)

    -- how a section ends: a refusal is that of the call that locks
    abbrev pub SectionEnds : Sight T → Result U Refusal → Type 0
    SectionEnds t (Ok u) = Section t u
    SectionEnds t (Err r) = locks t (Err r)

-- `LocksSo`, `BargesSo` and `TriesSo`, for a seat of a mutex

abbrev pub LocksFrom : {T : Type 0} → (ℕ → T → T → Type 0) → (T → ℕ → Type 0) → Mutex T → Seat T → Sight T → Result Locked Refusal → Type 0
LocksFrom follows fits m s t r = LocksSo follows fits (limits_of m) (sight s) t r

abbrev pub BargesFrom : {T : Type 0} → (ℕ → T → T → Type 0) → (T → ℕ → Type 0) → Mutex T → Seat T → Sight T → Result Locked Refusal → Type 0
BargesFrom follows fits m s t r = BargesSo follows fits (limits_of m) (tries_of m) (sight s) t r

abbrev pub TriesFrom : {T : Type 0} → (ℕ → T → T → Type 0) → (T → ℕ → Type 0) → Mutex T → Seat T → Sight T → Result Locked Refusal → Type 0
TriesFrom follows fits m s t r = TriesSo follows fits (limits_of m) (sight s) t r
