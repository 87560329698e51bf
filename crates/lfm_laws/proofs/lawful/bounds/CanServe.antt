-- Some event that serves is possible while the count is above 0: if no call is open, a seat owns or a sleeping seat has its
-- grant, and this seat can start the call.
use Rattle.std.proofs.Common.{◌≡◌, ◌⊎◌, ℕ, true, false, ◌<◌, length, refl, inl, inr, arith}
use Rattle.std.proofs.lemmas.Bool.{cases_Bool, cases_eq}
use Rattle.lfm_protocol.specs.declared.answers.Call.TheVariants.{Unlock, Receive}
use Rattle.lfm_protocol.specs.declared.points.Point.{Point}
use Rattle.lfm_protocol.specs.declared.points.Point.TheVariants.{Rest, Asleep}
use Rattle.lfm_protocol.specs.Core.{Core}
use Rattle.lfm_protocol.specs.Queue.{queue_of}
use Rattle.lfm_protocol.specs.Seats.{seat}
use Rattle.lfm_laws.specs.laws.Laws.{IsQuiet, IsHeld, IsGranted}
use Rattle.lfm_laws.specs.laws.Progress.{open_unit, open_calls}
use Rattle.lfm_laws.specs.laws.Schedules.{Event, begins, makes, is_call}
use Rattle.lfm_laws.specs.laws.Service.{CanServe, SomebodyCanServe}
use Rattle.lfm_laws.specs.steady.Steady.{DepthAt, Steady}
use Rattle.lfm_laws.proofs.lawful.bounds.Resting.{quiet_of_none}
use Rattle.lfm_laws.proofs.lawful.read.QueueRead.{queue_length}
use Rattle.lfm_laws.proofs.lawful.states.StateLaws.{quiescent_states_rest}
use Rattle.lfm_laws.proofs.steady.frames.Sums.{sum_witness}

counted : (c : Core) → Steady c → 0 < length (queue_of c) → 0 < c.count
counted c steady some =
    let long = queue_length c steady.ghost_state steady.fits in
    let count = steady.fits.words.count in
    omega (arith, some, long, count)

holder_rests : (depth : ℕ) (p : Point) → is_call p ≡ false → DepthAt depth p → 0 < depth → p ≡ Rest
holder_rests depth Rest quiet fits holds = refl
holder_rests depth (Asleep since) quiet fits holds = absurd (omega (arith, fits, holds))
holder_rests depth _ quiet fits holds = absurd (cc)

can_start : (c : Core) → Steady c → IsQuiet c → IsHeld c ⊎ IsGranted c → (e : Event) × CanServe c e
can_start c steady quiet (inl held) =
    let s : ℕ = held.owner in
    (begins s Unlock, (holder_rests (seat c.seats s).depth (seat c.seats s).point (quiet s) (steady.fits.each s).depth held.depth, held.depth))
can_start c steady quiet (inr granted) = (begins granted.sleeper Receive, ((granted.since, granted.sleeps), (granted.stamp, granted.word)))

open_of_unit : (c : Core) (s : ℕ) → 0 < open_unit c s → is_call (seat c.seats s).point ≡ true
open_of_unit c s some =
    elim (cases_Bool (is_call (seat c.seats s).point)) [
      | inl inside ↦ inside
      | inr closed ↦ let none : open_unit c s ≡ 0 = rw closed refl in absurd (omega (arith, some, none))
    ]

can_serve : (c : Core) → Steady c → 0 < c.count → (e : Event) × CanServe c e
can_serve c steady some =
    elim (cases_eq (open_calls c) 0) [
      | inl none ↦ let quiet = quiet_of_none c none in can_start c steady quiet ((quiescent_states_rest c steady quiet).1 some)
      | inr calls ↦ let inside = sum_witness (length c.seats) (open_unit c) (omega (arith, calls)) in (makes inside.0, open_of_unit c inside.0 inside.3)
    ]

pub somebody_can_serve : SomebodyCanServe
somebody_can_serve c steady = (counted c steady, can_serve c steady)
