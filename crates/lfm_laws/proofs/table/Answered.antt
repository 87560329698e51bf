-- How many seats have come to hold by a queued record, as a seat that comes to hold can tell: one fewer than the stamp of its
-- own grant or record, or as many as were popped if it holds without a record.
use Rattle.std.proofs.Common.{◌≡◌, ◌≢◌, ℕ, zero, suc, ◌+◌, ◌<◌, List, length, refl, sym, ap, ◌∙◌, arith}
use Rattle.std.proofs.lemmas.Bool.{ne_eqb}
use Rattle.std.proofs.lemmas.List.{length-append}
use Rattle.lfm_model.specs.declared.answers.How.{How}
use Rattle.lfm_protocol.specs.declared.points.Entrant.{Entrant}
use Rattle.lfm_protocol.specs.declared.points.Point.TheVariants.{EnterOwnerStore, ReceiveWakeLoad}
use Rattle.lfm_protocol.specs.declared.points.Sleeper.{Sleeper}
use Rattle.lfm_words.specs.declared.pop_lists.Record.{Record}
use Rattle.lfm_words.specs.declared.wakes.Wake.TheVariants.{Grant}
use Rattle.lfm_protocol.specs.Core.{Core}
use Rattle.lfm_laws.specs.steady.Ghost.{granted, entering, serving, Ghost}
use Rattle.lfm_laws.specs.steady.Numbered.{records}
use Rattle.lfm_laws.specs.steady.EventOutcome.{GoesOn}
use Rattle.lfm_protocol.specs.Seats.{seat, wake}
use Rattle.lfm_laws.specs.steady.Steady.{unanswered, Fits}
use Rattle.lfm_laws.specs.steady.Views.{claim_to_enter}
use Rattle.lfm_laws.proofs.steady.frames.Frames.{place_of_claim}
use Rattle.lfm_laws.proofs.steady.queue.Popping.{first_of}
use Rattle.lfm_laws.proofs.steady.grant.Wakings.{place_of_grant, grant_of_load}

-- The number grows by the record of each answer

length-records : (f : ℕ → ℕ) (k n : ℕ) → length (records f k n) ≡ n
length-records f k zero = refl
length-records f k (suc n) = let rest = length-records f (k + 1) n in omega (arith, rest)

pub answered_grows : (g h : Ghost) (pushes pops answers : List Record) → GoesOn g h pushes pops answers → h.answered ≡ g.answered + length answers
answered_grows g h pushes pops answers goes =
    let both = ap length goes.answered in
    let whole = length-append (records g.pushed_at 0 g.answered) answers in
    omega (arith, both, whole, length-records h.pushed_at 0 h.answered, length-records g.pushed_at 0 g.answered)

-- By the place

-- a stamp other than 0 is that of the record popped last, whose seat does not hold yet
by_stamp : (stamp answered popped : ℕ) → 0 < stamp → answered + unanswered (granted 0 stamp) ≡ popped → stamp ≡ popped → answered + 1 ≡ stamp
by_stamp stamp answered popped some answers last =
    let one : unanswered (granted 0 stamp) ≡ 1 = rw (ne_eqb stamp 0 (omega (arith, some))) refl in
    omega (arith, answers, one, last)

entering_by_grant : (c : Core) (g : Ghost) (s into stamp : ℕ) → Fits c g → g.place ≡ entering s into stamp → 0 < stamp → g.answered + 1 ≡ stamp
entering_by_grant c g s into stamp fits place some =
    let last = rw place at fits.words.last in
    let answers = rw place at fits.words.answers in
    by_stamp stamp g.answered g.popped some answers (last some).0

entering_free : (c : Core) (g : Ghost) (s into : ℕ) → Fits c g → g.place ≡ entering s into 0 → g.answered ≡ g.popped
entering_free c g s into fits place = let answers = rw place at fits.words.answers in omega (arith, answers)

-- At the owner store of a call that comes to hold

taken_own : (c : Core) (g : Ghost) (s stamp : ℕ) → Fits c g → (seat c.seats s).point ≡ EnterOwnerStore Entrant.Locker (How.Queued stamp) → g.answered + 1 ≡ stamp
taken_own c g s stamp fits at =
    let claims = rw at at (fits.each s).claims in
    let place = place_of_claim g.place (serving s) s (λ e. cc) claims in
    let answers = rw place at fits.words.answers in
    let knows = rw at at (fits.each s).knows in
    let first = first_of c g (record { seat = s; stamp = stamp }) knows.1.0 fits knows.0 knows.1.1 in
    omega (arith, answers, first.stamp)

received : (c : Core) (g : Ghost) (s stamp : ℕ) → Fits c g → (seat c.seats s).point ≡ EnterOwnerStore Entrant.Receiver (How.Queued stamp) → g.answered + 1 ≡ stamp
received c g s stamp fits at =
    let claims = rw at at (fits.each s).claims in
    let place = place_of_claim g.place (entering s s stamp) s (λ e. cc) claims in
    let some = rw at at (fits.each s).knows in
    entering_by_grant c g s s stamp fits place some

no_try : (stamp : ℕ) → How.Queued stamp ≢ How.Free
no_try stamp e = cc

-- a seat that comes to hold by a queued record answers next
pub answered_at_hold : (c : Core) (g : Ghost) (s : ℕ) (entrant : Entrant) (stamp : ℕ) → Fits c g
    → (seat c.seats s).point ≡ EnterOwnerStore entrant (How.Queued stamp) → g.answered + 1 ≡ stamp
answered_at_hold c g s Entrant.Locker stamp fits at = taken_own c g s stamp fits at
answered_at_hold c g s Entrant.Trier stamp fits at = let knows = rw at at (fits.each s).knows in absurd (no_try stamp knows)
answered_at_hold c g s Entrant.Receiver stamp fits at = received c g s stamp fits at

free_claim : (s : ℕ) (entrant : Entrant) → claim_to_enter s entrant How.Free ≡ entering s s 0
free_claim s Entrant.Locker = refl
free_claim s Entrant.Trier = refl
free_claim s Entrant.Receiver = refl

-- a seat that comes to hold without a queued record holds after the seats of all popped records
pub answered_at_free_hold : (c : Core) (g : Ghost) (s : ℕ) (entrant : Entrant) → Fits c g
    → (seat c.seats s).point ≡ EnterOwnerStore entrant How.Free → g.answered ≡ g.popped
answered_at_free_hold c g s entrant fits at =
    let claims = rw at at (fits.each s).claims in
    let place = place_of_claim g.place (entering s s 0) s (λ e. cc) (sym (free_claim s entrant) ∙ claims) in
    entering_free c g s s fits place

-- At the receive of a grant

pub answered_at_receive : (c : Core) (g : Ghost) (s stamp : ℕ) (sleeper : Sleeper) → Fits c g → (seat c.seats s).point ≡ ReceiveWakeLoad sleeper
    → wake c.wakes s ≡ Grant stamp → 0 < stamp → g.answered + 1 ≡ stamp
answered_at_receive c g s stamp sleeper fits at finds some =
    let woken = rw at at (fits.each s).woken in
    let place = place_of_grant g.place s stamp (grant_of_load g.place (g.standing s) s stamp sleeper (sym finds ∙ woken)) in
    let last = rw place at fits.words.last in
    let answers = rw place at fits.words.answers in
    by_stamp stamp g.answered g.popped some answers (last some).0

pub answered_at_free_receive : (c : Core) (g : Ghost) (s : ℕ) (sleeper : Sleeper) → Fits c g → (seat c.seats s).point ≡ ReceiveWakeLoad sleeper
    → wake c.wakes s ≡ Grant 0 → g.answered ≡ g.popped
answered_at_free_receive c g s sleeper fits at finds =
    let woken = rw at at (fits.each s).woken in
    let place = place_of_grant g.place s 0 (grant_of_load g.place (g.standing s) s 0 sleeper (sym finds ∙ woken)) in
    let answers = rw place at fits.words.answers in
    omega (arith, answers)
