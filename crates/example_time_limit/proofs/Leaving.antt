-- A seat that doesn't hold the mutex locks it, and later unlocks it: it has then left the value that it had in hand.
use Rattle.std.proofs.Common.{◌≡◌, ◌∙◌, ℕ, Some, Result, Ok, Err, OnOk, ap, arith}
use Rattle.lfm_model.specs.declared.answers.Locked.{Locked}
use Rattle.lfm_model.specs.declared.answers.Unlocked.{Unlocked}
use Rattle.lfm_model.specs.declared.refusals.Refusal.{Refusal}
use Rattle.lfm_mutex.specs.calls.Sight.{Sight, LeavesOff, LocksWaiting, Unlocks}
use Rattle.lfm_plain_condvar.specs.declared.wait_for.Waited.{Waited}
use Rattle.lfm_plain_condvar.specs.declared.waiters.Waiters.{Waiters}
use Rattle.lfm_plain_condvar.specs.Waits.{WaitForEnds}
use Rattle.example_time_limit.specs.declared.request.Request.{Request}

-- a thread may leave any request

abbrev AnyFollows : ℕ → Request → Request → Type 0
AnyFollows n v w = Unit {0}

abbrev AnyFits : Request → ℕ → Type 0
AnyFits v k = Unit {0}

-- it locks, and holds once
pub holds_once : (budget : ℕ) (s t : Sight Request) (locked : Locked) → s.depth ≡ 0 → LocksWaiting AnyFollows AnyFits budget s t (Ok locked) → t.depth ≡ 1
holds_once budget s t (Locked.Held how) out l = l.4
holds_once budget s t (Locked.Again d) out l = let deep = l.1 in absurd (omega arith)

-- it held once, and unlocks
leaves_off : (s t : Sight Request) (unlocked : Unlocked) → s.depth ≡ 1 → Unlocks s t (Ok unlocked) → LeavesOff s t
leaves_off s t (Unlocked.Still d) once e = let deep = e.1 in let more = e.2 in absurd (omega arith)
leaves_off s t Unlocked.Free once e = e.0
leaves_off s t (Unlocked.Granted n) once e = e.0
leaves_off s t Unlocked.Posted once e = e.0
leaves_off s t Unlocked.TakenOver once e = e.0

-- it held once, and unlocks: it doesn't hold, and left the value that it had in hand
pub leaves : (s t : Sight Request) (unlocked : Unlocked) (v w : Request) → s.depth ≡ 1 → s.value ≡ Some v → v ≡ w → Unlocks s t (Ok unlocked) → (t.depth ≡ 0) × (t.last ≡ Some w)
leaves s t unlocked v w once holds same e = let off = leaves_off s t unlocked once e in (off.3, off.5 v holds ∙ ap (λ (r : Request). Some r) same)

-- it waited with a time limit, and unlocks: unless the wait was refused, it doesn't hold
pub out_after_wait : (user own : _) (tries user_tries : ℕ) (c d : Sight Waiters) (s t u : Sight Request) (unlocked : Unlocked) (waited : Result Waited Refusal)
    → WaitForEnds AnyFollows AnyFits user own tries user_tries c d s t waited → Unlocks t u (Ok unlocked) → OnOk waited (u.depth ≡ 0)
out_after_wait user own tries user_tries c d s t u unlocked (Ok (Waited.Woken ticket)) w e = (leaves_off t u unlocked w.3.2.1.0.4 e).3
out_after_wait user own tries user_tries c d s t u unlocked (Ok (Waited.TimedOut ticket)) w e = (leaves_off t u unlocked w.3.2.1.0.4 e).3
out_after_wait user own tries user_tries c d s t u unlocked (Err refusal) w e = tt
