-- The budgets allow one push more while a call has counted a seat and has yet to push it: the takes of that seat pay for its
-- push. So fewer records are pushed than the budgets allow in all.
use Rattle.std.proofs.Common.{◌≡◌, ℕ, ◌+◌, ◌*◌, ◌≤◌, ◌<◌, List, length, refl, sym, ap, ◌∙◌, inl, inr, arith}
use Rattle.std.proofs.lemmas.Bool.{cases_eq, ne_eqb}
use Rattle.std.proofs.lemmas.List.{length-append}
use Rattle.lfm_protocol.specs.declared.points.Point.{Point}
use Rattle.lfm_protocol.specs.declared.points.Point.TheVariants.{LockOwnerLoad, PushLoad, LinkStore, PushExchange}
use Rattle.lfm_protocol.specs.declared.points.Pusher.{Pusher}
use Rattle.lfm_protocol.specs.Core.{Core}
use Rattle.lfm_protocol.specs.Points.{pushed_seat}
use Rattle.lfm_protocol.specs.Seats.{seat, IsSeat, wake}
use Rattle.lfm_laws.specs.laws.Errands.{asks_for_at, asks_for}
use Rattle.lfm_laws.specs.laws.Schedules.{Event, run_of, push_record}
use Rattle.lfm_laws.specs.steady.Ghost.{asks, Ghost}
use Rattle.lfm_laws.specs.steady.Steady.{Steady, Fits, ErrandFits}
use Rattle.lfm_laws.specs.steady.Views.{grant_at}
use Rattle.lfm_laws.proofs.lawful.bounds.Leaving.{seat_of_call}
use Rattle.lfm_laws.proofs.steady.frames.Seated.{seat_of_asking}
use Rattle.lfm_laws.specs.steady.Numbered.{records}
use Rattle.lfm_words.specs.declared.wakes.Wake.TheVariants.{Claimed}
use Rattle.lfm_laws.proofs.lawful.runs.RunLaws.{run_goes}
use Rattle.lfm_laws.proofs.lawful.runs.LimitsKept.{run_limits}
use Rattle.lfm_laws.proofs.lawful.read.RecordsRead.{length-records}
use Rattle.lfm_laws.proofs.steady.frames.Sums.{sum_bound_less}
use Rattle.lfm_laws.proofs.steady.grant.Wakings.{none_from, asked_sleeps_at}
use Rattle.lfm_laws.proofs.steady.grant.Claimed.{wake_asleep, pays_asleep}
use Rattle.lfm_laws.proofs.lawful.rounds.Asking.{asking_call}
use Rattle.lfm_protocol.specs.declared.limits.Limits.{Limits}

-- the takes of the seat that is pushed pay for its push
unpaid : (c : Core) (g : Ghost) (s : ℕ) (pusher : Pusher) → Fits c g → IsSeat c.seats s → ErrandFits g s pusher
    → (pusher ≡ Pusher.Locker → g.pushes s + 1 ≤ (seat c.seats s).takes) → IsSeat c.seats (pushed_seat pusher s) × (g.pushes (pushed_seat pusher s) + 1 ≤ (seat c.seats (pushed_seat pusher s)).takes)
unpaid c g s Pusher.Locker fits is errand own = (is, own refl)
unpaid c g s (Pusher.Sender t) fits is errand own =
    let asked : g.standing t ≡ asks s = errand.1 in
    let here = fits.each t in
    let none = none_from (grant_at g.place t) (λ some. let f = sym asked ∙ (here.granted some).1 in cc) in
    let sleeps = asked_sleeps_at g.place (seat c.seats t).depth t s (seat c.seats t).point errand.0 none (rw asked at here.stands) in
    let woken : wake c.wakes t ≡ Claimed = rw asked at (wake_asleep c g t (seat c.seats t) (wake c.wakes t) sleeps none here) in
    (seat_of_asking c g t s fits asked, rw (woken, asked) at (pays_asleep c g t (seat c.seats t) (wake c.wakes t) sleeps here))

asked_unpaid : (c : Core) (g : Ghost) (s : ℕ) (p : Point) → (seat c.seats s).point ≡ p → Fits c g → IsSeat c.seats s → 0 < asks_for_at (seat c.seats s).depth s p
    → (u : ℕ) × IsSeat c.seats u × (g.pushes u + 1 ≤ (seat c.seats u).takes)
asked_unpaid c g s LockOwnerLoad at fits is asking =
    elim (cases_eq (seat c.seats s).depth 0) [
      | inl flat ↦ let paid = rw (at, flat) at (fits.each s).pushes in (s, is, paid)
      | inr deep ↦ absurd (let none = ne_eqb (seat c.seats s).depth 0 deep in let zero : 0 < 0 = rw none at asking in omega (arith, zero))
    ]
asked_unpaid c g s (PushLoad pusher) at fits is asking =
    let paid = rw at at (fits.each s).pushes in
    let it = unpaid c g s pusher fits is (rw at at (fits.each s).knows) (λ own. rw own at paid) in
    (pushed_seat pusher s, it.0, it.1)
asked_unpaid c g s (LinkStore pusher seen) at fits is asking =
    let paid = rw at at (fits.each s).pushes in
    let knows = rw at at (fits.each s).knows in
    let it = unpaid c g s pusher fits is knows.0 (λ own. rw own at paid) in
    (pushed_seat pusher s, it.0, it.1)
asked_unpaid c g s (PushExchange pusher seen) at fits is asking =
    let paid = rw at at (fits.each s).pushes in
    let knows = rw at at (fits.each s).knows in
    let it = unpaid c g s pusher fits is knows.0 (λ own. rw own at paid) in
    (pushed_seat pusher s, it.0, it.1)
asked_unpaid c g s _ at fits is asking = absurd (omega (arith, asking))

-- so the budgets allow one push more
stamp_less : (c : Core) (g : Ghost) (s : ℕ) → Fits c g → 0 < asks_for (seat c.seats s) s → g.pushed + 1 ≤ length c.seats * c.budget
stamp_less c g s fits asking =
    let is = seat_of_call c s (asking_call c s asking) in
    let it = asked_unpaid c g s (seat c.seats s).point refl fits is asking in
    let most = sum_bound_less (length c.seats) c.budget it.0 g.pushes it.1.above it.1.within (λ u. omega (arith, (fits.each u).pushes, (fits.each u).takes)) (omega (arith, it.2, (fits.each it.0).takes)) in
    omega (arith, fits.sums.pushed, most)

pub pushed_less : (c : Core) (events : List Event) (s : ℕ) → Steady c → 0 < asks_for (seat (run_of c events).seats s) s → length (push_record c events) + 1 ≤ length c.seats * c.budget
pushed_less c events s steady asking =
    let run = run_goes c steady.ghost_state events steady.fits in
    let same : length (run_of c events).seats * (run_of c events).budget ≡ length c.seats * c.budget = ap (λ (l : Limits). l.seats * l.budget) (run_limits c events) in
    let less = stamp_less (run_of c events) run.to s run.fits asking in
    let grown : length (records run.to.pushed_at 0 run.to.pushed) ≡ _ = ap length run.history.pushed ∙ length-append (records steady.ghost_state.pushed_at 0 steady.ghost_state.pushed) (push_record c events) in
    let after = length-records run.to.pushed_at 0 run.to.pushed in
    let first = length-records steady.ghost_state.pushed_at 0 steady.ghost_state.pushed in
    omega (arith, less, grown, after, first, same)
