use Rattle.std.proofs.Common.{ℕ, List, ap, sym, append-nil}
use Rattle.lfm_pool.proofs.wake_up.wake_granted_and_note.Goals as goal

-- without a wake-up nobody is added to those that were woken
pub returns-in-None : goal.returns-in-None
returns-in-None c = let o = c.args.off_trail.now in rw c.in-None.is (ap (λ (l : List ℕ). record o { woken = l }) (sym (append-nil o.woken)))
