-- A lock that holds by a queued record took its own record from the queue; a lock or try_lock that holds without one took none.
use Rattle.std.proofs.Common.{◌≡◌, ℕ, refl, inl, inr}
use Rattle.std.proofs.lemmas.Bool.{cases_Bool}
use Rattle.std.specs.Prelude.{Some, None}
use Rattle.lfm_model.specs.declared.answers.Asked.{Asked}
use Rattle.lfm_model.specs.declared.answers.How.{How}
use Rattle.lfm_model.specs.declared.answers.Locked.{Locked}
use Rattle.lfm_protocol.specs.declared.answers.Answer.{Answer}
use Rattle.lfm_protocol.specs.declared.answers.Turn.{Turn}
use Rattle.lfm_protocol.specs.declared.answers.Turn.TheVariants.{Ended}
use Rattle.lfm_protocol.specs.declared.points.Entrant.{Entrant}
use Rattle.lfm_protocol.specs.declared.points.Point.{Point}
use Rattle.lfm_protocol.specs.declared.points.Point.TheVariants.{Rest, Asleep, WaitWakeStore, EnterOwnerStore}
use Rattle.lfm_protocol.specs.After.{held}
use Rattle.lfm_protocol.specs.Core.{Core}
use Rattle.lfm_protocol.specs.Seats.{seat, is_seat}
use Rattle.lfm_protocol.specs.Step.{step}
use Rattle.lfm_laws.specs.laws.Entries.{HeldBy, HoldersTookTheirRecord}
use Rattle.lfm_laws.specs.laws.Events.{pushed_by, popped_by}
use Rattle.lfm_laws.specs.steady.Ghost.{Ghost}
use Rattle.lfm_laws.specs.steady.Steady.{Fits}
use Rattle.lfm_laws.proofs.lawful.bounds.Leaving.{stepped}
use Rattle.lfm_laws.proofs.lawful.calls.CallSteps.{kept_told, step_follows}
use Rattle.lfm_laws.proofs.lawful.calls.QueueSteps.{queue_made, stays, serves}
use Rattle.lfm_laws.proofs.lawful.refusals.PlainSteps.{turn_made}

some_none : (a : Answer) → Some a ≡ None → ⊥
some_none a e = cc

-- a turn for which no answer was kept answers no new hold
unheld : (c d : Core) (s : ℕ) (turn : Turn) → kept_told turn ≡ None → HeldBy c d s turn
unheld c d s (Ended (Answer.Asked (Asked.Held How.Free))) none = absurd (some_none _ none)
unheld c d s (Ended (Answer.Asked (Asked.Held (How.Queued stamp)))) none = absurd (some_none _ none)
unheld c d s (Ended (Answer.Locked (Locked.Held how))) none = absurd (some_none _ none)
unheld c d s _ none = tt

holds : (c : Core) (g : Ghost) (s : ℕ) (entrant : Entrant) (how : How) → (seat c.seats s).point ≡ EnterOwnerStore entrant how → Fits c g
    → HeldBy c (step c s).core s (Ended (held entrant how))
holds c g s Entrant.Locker How.Free at fits = stays _ _ (pushed_by c s) (popped_by c s) (queue_made c g s fits) (rw at refl) (rw at refl)
holds c g s Entrant.Locker (How.Queued stamp) at fits = serves _ _ (pushed_by c s) (popped_by c s) _ (queue_made c g s fits) (rw at refl) (rw at refl)
holds c g s Entrant.Trier how at fits =
    let free = rw at at (fits.each s).knows in
    (free, stays _ _ (pushed_by c s) (popped_by c s) (queue_made c g s fits) (rw at refl) (rw at refl))
holds c g s Entrant.Receiver how at fits = tt

held_at : (c : Core) (g : Ghost) (s : ℕ) (p : Point) → (seat c.seats s).point ≡ p → Fits c g → HeldBy c (step c s).core s (stepped c s).turn
held_at c g s (EnterOwnerStore entrant how) at fits =
    let told : (stepped c s).turn ≡ Ended (held entrant how) = rw (at, at) refl in
    rw told (holds c g s entrant how at fits)
held_at c g s (WaitWakeStore answer) at fits =
    let told : (stepped c s).turn ≡ Ended (Answer.Waiting answer) = rw (at, at) refl in
    rw told tt
held_at c g s Rest at fits = unheld c (step c s).core s (stepped c s).turn (rw at refl)
held_at c g s (Asleep sleeper) at fits = unheld c (step c s).core s (stepped c s).turn (rw at refl)
held_at c g s p at fits = unheld c (step c s).core s (stepped c s).turn (step_follows c s p at refl).told

pub holders_took_their_record : HoldersTookTheirRecord
holders_took_their_record c s steady =
    elim (cases_Bool (is_seat c.seats s)) [
      | inl is ↦
          let same : (step c s).turn ≡ (stepped c s).turn = rw is (turn_made c s) in
          rw same (held_at c steady.ghost_state s (seat c.seats s).point refl steady.fits)
      | inr none ↦ rw none tt
    ]
