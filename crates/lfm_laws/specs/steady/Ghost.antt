-- What the words and points do not show: where the responsibility is with all that its carrier does, the standing of each seat
-- in the queue, and the full history of pushes. No code has any of this.
use Rattle.std.specs.Prelude.{ℕ, Bool}

-- where the responsibility is, with details. An owner may be between the add and the subtract of a recursive lock. A granted
-- seat has the stamp of its grant, 0 if the grant is free. An entering call brings in a seat, its own or the target of its
-- send, by a stamp or 0
pub data Responsibility : Type 0 where
  nobody : Responsibility
  owned : ℕ → Bool → Responsibility
  granted : ℕ → ℕ → Responsibility
  posted : Responsibility
  entering : ℕ → ℕ → ℕ → Responsibility
  accepting : ℕ → Responsibility
  leaving : ℕ → Responsibility
  serving : ℕ → Responsibility

-- the standing of a seat: apart from the queue; claimed by the send of a seat that has not counted it yet; counted by a seat
-- that has not pushed it yet; or queued with a stamp
pub data Standing : Type 0 where
  apart : Standing
  claimed : ℕ → Standing
  asks : ℕ → Standing
  queued : ℕ → Standing

-- Each stamp up to `pushed` was pushed for one seat. The first `popped` of them have left the queue. A carrier has cleared the
-- next `walk` of them from the push word and has not collected them yet. `asking` is how many seats ask, `watcher` the seat
-- whose call watches a post, `answered` how many seats came to hold by a queued record, and `pushes` how often each seat was
-- pushed.
pub record Ghost : Type 0 where
  pub place : Responsibility
  pub standing : ℕ → Standing
  pub pushed_at : ℕ → ℕ
  pub pushed : ℕ
  pub popped : ℕ
  pub walk : ℕ
  pub asking : ℕ
  pub watcher : ℕ
  pub answered : ℕ
  pub pushes : ℕ → ℕ
