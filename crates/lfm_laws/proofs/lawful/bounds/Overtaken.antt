-- While a record stays queued, a seat becomes the owner by a record before it, and at most once more: by what was already on
-- its way to a seat, or by a post for which no record was seen. A release finds the record, so no later post is made. A seat
-- that stops owning has become the owner in the run or before it.
use Rattle.std.proofs.Common.{◌≡◌, ℕ, false, ◌+◌, ◌-◌, ◌≤◌, ◌<◌, Option, Some, None, List, [], ◌∷◌, length, refl, sym, ap, ◌∙◌, inl, inr, arith}
use Rattle.std.proofs.lemmas.Bool.{cases_Bool, false≢true}
use Rattle.std.proofs.lemmas.List.{length-append}
use Rattle.lfm_model.specs.Abstract.{AbstractPlace, AbstractStep, free, owner, passed, carried}
use Rattle.lfm_model.specs.Abstract as Abstract
use Rattle.lfm_model.specs.AbstractRuns.{Case, case_of}
use Rattle.lfm_model.specs.declared.answers.How.{How}
use Rattle.lfm_protocol.specs.declared.points.Entrant.{Entrant}
use Rattle.lfm_protocol.specs.declared.points.Point.{Point}
use Rattle.lfm_protocol.specs.declared.points.Point.TheVariants.{Rest, ReleaseOwnerStore, ReleaseCountSubtract, ReleaseHandoffStore, GrantWakeStore, EnterOwnerStore}
use Rattle.lfm_protocol.specs.declared.points.Releaser.{Releaser}
use Rattle.lfm_words.specs.Popped.{oldest}
use Rattle.lfm_protocol.specs.After.{serves, claims}
use Rattle.lfm_protocol.specs.Core.{Core}
use Rattle.lfm_protocol.specs.Queue.{queue_of}
use Rattle.lfm_protocol.specs.Seats.{seat, is_seat, IsSeat}
use Rattle.lfm_protocol.specs.Step.{made, begin}
use Rattle.lfm_laws.specs.laws.Cases.{GoesBy}
use Rattle.lfm_laws.specs.laws.Events.{popped_by, popped_at_point, case_at}
use Rattle.lfm_laws.specs.laws.Overtaking.{weighed_in, weight_of_run, enters_at, releases_at, QueuedSeatsAreOvertakenOnce, QueuedSeatsWaitForFewReleases}
use Rattle.lfm_laws.specs.laws.Schedules.{Event, begins, makes, happens, popped_in, popped_record}
use Rattle.lfm_laws.specs.steady.Ghost as Places
use Rattle.lfm_laws.specs.steady.Ghost.{Responsibility, nobody, owned, posted, entering, accepting, leaving, serving, Ghost}
use Rattle.lfm_laws.specs.steady.EventOutcome.{abstract, abstract_place}
use Rattle.lfm_laws.specs.steady.Steady.{HasQueue, Fits, Steady}
use Rattle.lfm_laws.specs.steady.Views.{claim_to_enter, held_by, stamp_of}
use Rattle.lfm_laws.proofs.lawful.bounds.Leaving.{own_made}
use Rattle.lfm_laws.proofs.lawful.read.QueueRead.{queue_read}
use Rattle.lfm_laws.proofs.lawful.read.RecordsRead.{length-records}
use Rattle.lfm_laws.proofs.lawful.runs.Reached.{absent_tested, begin_keeps, made_keeps}
use Rattle.lfm_laws.proofs.steady.frames.Frames.{place_of_claim}
use Rattle.lfm_laws.proofs.steady.frames.Seated.{seat_of_test}
use Rattle.lfm_laws.specs.laws.Laws.{post_weight}
use Rattle.lfm_laws.proofs.lawful.bounds.NextPosts.{post_weight-le, next_stays, leaving_next, begin_stays}
use Rattle.lfm_laws.proofs.lawful.bounds.PlainCases.{not_empty, gives, gives_by, plain_case}
use Rattle.lfm_laws.proofs.lawful.bounds.HistoryCounts.{popped_by_history, pushed_by_history}

-- What can still bring in a seat, besides the records

abbrev spare_at : ℕ → Core → AbstractPlace → ℕ
spare_at o c free = 1
spare_at o c (owner s) = o
spare_at o c (passed s) = 1
spare_at o c Abstract.posted = 1
spare_at o c (carried s (Abstract.entering into)) = 1
spare_at o c (carried s Abstract.leaving) = 0
spare_at o c (carried s Abstract.serving) = post_weight (seat c.seats s).point

abbrev spare : ℕ → Core → Ghost → ℕ
spare o c g = spare_at o c (abstract_place g.place)

spare_at-le : (o : ℕ) (c : Core) (p : AbstractPlace) → o ≤ 1 → spare_at o c p ≤ 1
spare_at-le o c (carried s (Abstract.entering into)) small = omega arith
spare_at-le o c (carried s Abstract.leaving) small = omega arith
spare_at-le o c (carried s Abstract.serving) small = post_weight-le (seat c.seats s).point
spare_at-le o c _ small = omega (arith, small)

same_place : (o : ℕ) (c d : Core) (p : Responsibility) → ((s : ℕ) → p ≡ serving s → post_weight (seat d.seats s).point ≤ post_weight (seat c.seats s).point)
    → spare_at o d (abstract_place p) ≤ spare_at o c (abstract_place p)
same_place o c d (serving s) stays = stays s refl
same_place o c d (leaving s) stays = omega arith
same_place o c d nobody stays = omega arith
same_place o c d (owned s again) stays = omega arith
same_place o c d (Places.granted s stamp) stays = omega arith
same_place o c d posted stays = omega arith
same_place o c d (entering s into stamp) stays = omega arith
same_place o c d (accepting s) stays = omega arith

-- Steps

by_step : (o : ℕ) (c : Core) (g h : Ghost) (t : ℕ) → Fits c g → HasQueue g → IsSeat c.seats t → o ≤ 1 → (step : AbstractStep (abstract g) (abstract h)) → gives (case_of step) ≡ false
    → spare o (made c t).core h ≤ spare o c g
by_step o c g h t fits some is small (Abstract.ask_free s x moves) other = rw moves.before (spare_at-le o (made c t).core (abstract_place h.place) small)
by_step o c g h t fits some is small (Abstract.ask_joins x taken nothing joins) other =
    rw joins.place (same_place o c (made c t).core g.place (λ s e. next_stays c g t s fits some is))
by_step o c g h t fits some is small (Abstract.queue x queues) other =
    rw queues.place (same_place o c (made c t).core g.place (λ s e. next_stays c g t s fits some is))
by_step o c g h t fits some is small (Abstract.serve s w serves) other = absurd (false≢true (sym other))
by_step o c g h t fits some is small (Abstract.post s somebody moves) other = absurd (false≢true (sym other))
by_step o c g h t fits some is small (Abstract.take x moves) other = rw moves.before (spare_at-le o (made c t).core (abstract_place h.place) small)
by_step o c g h t fits some is small (Abstract.accept x moves) other = rw moves.before (spare_at-le o (made c t).core (abstract_place h.place) small)
by_step o c g h t fits some is small (Abstract.take_up x moves) other = rw moves.before (spare_at-le o (made c t).core (abstract_place h.place) small)
by_step o c g h t fits some is small (Abstract.enter s x moves) other = rw moves.before (spare_at-le o (made c t).core (abstract_place h.place) small)
by_step o c g h t fits some is small (Abstract.release s moves) other = rw moves.after (omega arith)
by_step o c g h t fits some is small (Abstract.leave s to goes moves) other =
    elim goes [
      | inl away ↦ absurd (not_empty g some away.0.waiting)
      | inr served ↦
          let none = leaving_next c g s fits moves.before in
          let stays = next_stays c g t s fits some is in
          rw (moves.after, served.1, moves.before) (omega (arith, none, stays))
    ]

by_case : (o : ℕ) (c : Core) (g h : Ghost) (t : ℕ) (k : Option Case) → Fits c g → HasQueue g → IsSeat c.seats t → o ≤ 1 → GoesBy k (abstract g) (abstract h) → gives_by k ≡ false
    → spare o (made c t).core h ≤ spare o c g
by_case o c g h t None fits some is small goes other = rw goes.place (same_place o c (made c t).core g.place (λ s e. next_stays c g t s fits some is))
by_case o c g h t (Some case) fits some is small goes other = by_step o c g h t fits some is small goes.0 (ap gives goes.1 ∙ other)

-- a seat that enters owns, and nothing else can bring in a seat
owner_place : (c : Core) (h : Ghost) (t : ℕ) (entrant : Entrant) (how : How) → (seat c.seats t).point ≡ EnterOwnerStore entrant how → IsSeat c.seats t → Fits (made c t).core h
    → spare 0 (made c t).core h ≡ 0
owner_place c h t entrant how at is fits =
    let view : seat (made c t).core.seats t ≡ record (seat c.seats t) { point = Rest; depth = 1 } = own_made c t is ∙ rw (at, at) refl in
    let claims = (fits.each t).claims in
    let owns : owned t false ≡ held_by h.place t = rw view at claims in
    let place = place_of_claim h.place (owned t false) t (λ e. cc) owns in
    rw place refl

-- the seat was on its way already, or takes its own record

placed : (o : ℕ) (c : Core) (g : Ghost) (t into stamp : ℕ) → entering t into stamp ≡ held_by g.place t → 1 ≤ spare o c g
placed o c g t into stamp claims = let place = place_of_claim g.place (entering t into stamp) t (λ e. cc) claims in rw place (omega arith)

entering_by : (o : ℕ) (c : Core) (g : Ghost) (t : ℕ) (entrant : Entrant) (how : How) → claim_to_enter t entrant how ≡ held_by g.place t
    → 1 ≤ spare o c g + length (popped_at_point t (EnterOwnerStore entrant how))
entering_by o c g t Entrant.Locker How.Free claims = let one = placed o c g t t 0 claims in omega (arith, one)
entering_by o c g t Entrant.Locker (How.Queued stamp) claims = omega arith
entering_by o c g t Entrant.Trier how claims = let one = placed o c g t t 0 claims in omega (arith, one)
entering_by o c g t Entrant.Receiver how claims = let one = placed o c g t t (stamp_of how) claims in omega (arith, one)

posting_spare : (o : ℕ) (c : Core) (g : Ghost) (t : ℕ) (releaser : Releaser) → (seat c.seats t).point ≡ ReleaseHandoffStore releaser → Fits c g → 1 ≤ spare o c g
posting_spare o c g t releaser at fits =
    let claims : serving t ≡ held_by g.place t = rw at at (fits.each t).claims in
    let place = place_of_claim g.place (serving t) t (λ e. cc) claims in
    rw (place, at) (omega arith)

-- an event of this weight, by which this number of records leave
record Passes (o : ℕ) (c d : Core) (g : Ghost) (weighs pops : ℕ) : Type 0 where
  pub to : Ghost
  pub fits : Fits d to
  pub popped : to.popped ≡ g.popped + pops
  pub pushed : g.pushed ≤ to.pushed
  pub spends : weighs + spare o d to ≤ spare o c g + pops

-- the weight of each step is covered by what can still bring in a seat, or by the record that leaves with the step
abbrev Spends : ℕ → (Point → ℕ) → Type 0
Spends o weight =
    (c : Core) (g h : Ghost) (t : ℕ) (p : Point) → (seat c.seats t).point ≡ p → Fits c g → HasQueue g → IsSeat c.seats t → Fits (made c t).core h
    → GoesBy (case_at c t (seat c.seats t) p) (abstract g) (abstract h) → weight p + spare o (made c t).core h ≤ spare o c g + length (popped_at_point t p)

-- a seat that enters uses up what could bring it in, as an owner does not count
entries_spend : Spends 0 enters_at
entries_spend c g h t (EnterOwnerStore entrant how) at fits some is after goes =
    let none = owner_place c h t entrant how at is after in
    let one = entering_by 0 c g t entrant how (rw at at (fits.each t).claims) in
    omega (arith, none, one)
entries_spend c g h t (GrantWakeStore carrier oldest) at fits some is after goes =
    let most = spare_at-le 0 (made c t).core (abstract_place h.place) (omega arith) in
    omega (arith, most)
entries_spend c g h t (ReleaseHandoffStore releaser) at fits some is after goes =
    let most = spare_at-le 0 (made c t).core (abstract_place h.place) (omega arith) in
    let one = posting_spare 0 c g t releaser at fits in
    omega (arith, most, one)
entries_spend c g h t p at fits some is after goes =
    let less = by_case 0 c g h t (case_at c t (seat c.seats t) p) fits some is (omega arith) goes (plain_case c t (seat c.seats t) p refl) in
    omega (arith, less)

-- a seat that releases had counted as an owner
leaving_spare : (c : Core) (h : Ghost) (t : ℕ) (releaser : Releaser) → (seat c.seats t).point ≡ ReleaseOwnerStore releaser → IsSeat c.seats t → Fits (made c t).core h
    → spare 1 (made c t).core h ≡ 0
leaving_spare c h t releaser at is fits =
    let view : seat (made c t).core.seats t ≡ record (seat c.seats t) { point = ReleaseCountSubtract releaser; depth = 0 } = own_made c t is ∙ rw (at, at) refl in
    let claims = (fits.each t).claims in
    let leaves : leaving t ≡ held_by h.place t = rw view at claims in
    let place = place_of_claim h.place (leaving t) t (λ e. cc) leaves in
    rw place refl

owning_spare : (c : Core) (g : Ghost) (t : ℕ) (releaser : Releaser) → (seat c.seats t).point ≡ ReleaseOwnerStore releaser → Fits c g → spare 1 c g ≡ 1
owning_spare c g t releaser at fits =
    let claims : owned t false ≡ held_by g.place t = rw at at (fits.each t).claims in
    let place = place_of_claim g.place (owned t false) t (λ e. cc) claims in
    rw place refl

releases_spend : Spends 1 releases_at
releases_spend c g h t (EnterOwnerStore entrant how) at fits some is after goes =
    let most = spare_at-le 1 (made c t).core (abstract_place h.place) (omega arith) in
    let one = entering_by 1 c g t entrant how (rw at at (fits.each t).claims) in
    omega (arith, most, one)
releases_spend c g h t (GrantWakeStore carrier oldest) at fits some is after goes =
    let most = spare_at-le 1 (made c t).core (abstract_place h.place) (omega arith) in
    omega (arith, most)
releases_spend c g h t (ReleaseHandoffStore releaser) at fits some is after goes =
    let most = spare_at-le 1 (made c t).core (abstract_place h.place) (omega arith) in
    let one = posting_spare 1 c g t releaser at fits in
    omega (arith, most, one)
releases_spend c g h t (ReleaseOwnerStore releaser) at fits some is after goes =
    let none = leaving_spare c h t releaser at is after in
    let one = owning_spare c g t releaser at fits in
    omega (arith, none, one)
releases_spend c g h t p at fits some is after goes =
    let less = by_case 1 c g h t (case_at c t (seat c.seats t) p) fits some is (omega arith) goes (plain_case c t (seat c.seats t) p refl) in
    omega (arith, less)

passes_made : (o : ℕ) (weight : Point → ℕ) → Spends o weight → (c : Core) (g : Ghost) (t : ℕ) → Fits c g → HasQueue g → IsSeat c.seats t
    → Passes o c (made c t).core g (weight (seat c.seats t).point) (length (popped_by c t))
passes_made o weight spends c g t fits some is =
    let kept = made_keeps c g t is fits in
    record {
      to = kept.to;
      fits = kept.fits;
      popped = popped_by_history g kept.to _ _ _ kept.history;
      pushed = pushed_by_history g kept.to _ _ _ kept.history;
      spends = spends c g kept.to t (seat c.seats t).point refl fits some is kept.fits kept.goes;
    }

stays_here : (o : ℕ) (c d : Core) (g : Ghost) → Fits d g → spare o d g ≤ spare o c g → Passes o c d g 0 0
stays_here o c d g fits less = record { to = g; fits = fits; popped = omega arith; pushed = omega arith; spends = omega (arith, less) }

passes_event : (o : ℕ) (weight : Point → ℕ) → Spends o weight → weight Rest ≡ 0 → (c : Core) (g : Ghost) (e : Event) → Fits c g → HasQueue g
    → Passes o c (happens c e).core g (weighed_in weight c e) (length (popped_in c e))
passes_event o weight spends rests c g (begins t call) fits some =
    stays_here o c (begin c t call).core g (begin_keeps c g t call fits)
    (same_place o c (begin c t call).core g.place (λ s place. begin_stays c g t s call fits place))
passes_event o weight spends rests c g (makes t) fits some =
    elim (cases_Bool (is_seat c.seats t)) [
      | inl known ↦ rw known (passes_made o weight spends c g t fits some (seat_of_test c.seats t known))
      | inr none ↦ rw (none, absent_tested c.seats t none, rests) (stays_here o c c g fits (omega arith))
    ]

-- Runs

weight_of_run-le : (o : ℕ) (weight : Point → ℕ) → Spends o weight → weight Rest ≡ 0 → (c : Core) (g : Ghost) (events : List Event) → Fits c g
    → g.popped + length (popped_record c events) < g.pushed → weight_of_run weight c events ≤ spare o c g + length (popped_record c events)
weight_of_run-le o weight spends rests c g [] fits some = omega arith
weight_of_run-le o weight spends rests c g (e ∷ later) fits some =
    let split = length-append (popped_in c e) (popped_record (happens c e).core later) in
    let one = passes_event o weight spends rests c g e fits (omega (arith, some)) in
    let popped = one.popped in
    let pushed = one.pushed in
    let less = one.spends in
    let rest = weight_of_run-le o weight spends rests (happens c e).core one.to later one.fits (omega (arith, some, split, popped, pushed)) in
    omega (arith, rest, less, split)

-- while record k of the queue has not left it
while_queued : (o : ℕ) (weight : Point → ℕ) → Spends o weight → weight Rest ≡ 0 → o ≤ 1 → (c : Core) (events : List Event) (k : ℕ) → Steady c
    → k < length (queue_of c) → length (popped_record c events) ≤ k → weight_of_run weight c events ≤ length (popped_record c events) + 1
while_queued o weight spends rests small c events k steady within few =
    let g : Ghost = steady.ghost_state in
    let long = ap length (queue_read c g steady.fits) ∙ length-records g.pushed_at g.popped (g.pushed - g.popped) in
    let most = weight_of_run-le o weight spends rests c g events steady.fits (omega (arith, within, few, long)) in
    let one = spare_at-le o c (abstract_place g.place) small in
    omega (arith, most, one)

pub queued_seats_are_overtaken_once : QueuedSeatsAreOvertakenOnce
queued_seats_are_overtaken_once c events k is within few = while_queued 0 enters_at entries_spend refl (omega arith) c events k is within few

pub queued_seats_wait_for_few_releases : QueuedSeatsWaitForFewReleases
queued_seats_wait_for_few_releases c events k is within few = while_queued 1 releases_at releases_spend refl (omega arith) c events k is within few
