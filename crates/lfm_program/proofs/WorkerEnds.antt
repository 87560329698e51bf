-- What the end of a worker's thread implies for its commands.
use Rattle.std.proofs.Common.{◌≡◌, ◌≢◌, Bool, true, false, sym, ap, true≢false}
use Rattle.lfm_program.specs.declared.performed.Performed.{Performed}
use Rattle.lfm_program.specs.declared.performed.Performed.TheVariants.{Done}
use Rattle.lfm_program.specs.declared.workers.WorkerEnd.{WorkerEnd}
use Rattle.lfm_program.specs.declared.workers.WorkerEnd.TheVariants.{CalledOff, Performed as LetGo}

abbrev performed_of : WorkerEnd → Performed
performed_of CalledOff = Done
performed_of (LetGo r) = r

abbrev is_let_go : WorkerEnd → Bool
is_let_go CalledOff = false
is_let_go (LetGo r) = true

pub let_go : (a b : Performed) → LetGo a ≡ LetGo b → a ≡ b
let_go a b is = ap performed_of is

pub called_off_ends : (r : Performed) → CalledOff ≢ LetGo r
called_off_ends r is = true≢false (sym (ap is_let_go is))
