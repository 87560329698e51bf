-- At the exchange that takes a posted handoff, the push list has a record and the pop list is empty.
use Rattle.std.proofs.Common.{◌≡◌, ℕ, Bool, true, false, ◌<◌, Option, Some, [], nat_eq, if◌then◌else◌, refl, sym, ap, ◌∙◌, inl, inr, arith}
use Rattle.std.proofs.lemmas.Bool.{cases_Bool, false≢true}
use Rattle.std.proofs.Math.Bool.{or-false}
use Rattle.lfm_model.specs.AbstractRuns.{Case, take}
use Rattle.lfm_model.specs.declared.answers.How.{How}
use Rattle.lfm_protocol.specs.declared.points.Entrant.{Entrant}
use Rattle.lfm_protocol.specs.declared.points.Point.{Point}
use Rattle.lfm_protocol.specs.declared.points.Point.TheVariants.{LockCountAdd, TryCountExchange, EnterOwnerStore, PushExchange, PushedHandoffExchange, ReleaseHandoffExchange, TryHandoffExchange, ReceiveWakeLoad}
use Rattle.lfm_protocol.specs.declared.points.Pusher.{Pusher}
use Rattle.lfm_protocol.specs.declared.points.Releaser.{Releaser}
use Rattle.lfm_words.specs.declared.handoffs.Handoff.{Handoff}
use Rattle.lfm_words.specs.declared.wakes.Wake.{Wake}
use Rattle.lfm_words.specs.declared.wakes.Wake.TheVariants.{Grant}
use Rattle.lfm_protocol.specs.After.{same_link, same_handoff}
use Rattle.lfm_protocol.specs.Core.{Core}
use Rattle.lfm_laws.specs.laws.Events.{enters_by, takes_up, case_at}
use Rattle.lfm_laws.specs.steady.Ghost.{posted, Ghost}
use Rattle.lfm_laws.specs.laws.Laws.{WonPostsHaveARecord}
use Rattle.lfm_protocol.specs.Seats.{seat, wake}
use Rattle.lfm_laws.specs.steady.Steady.{HasQueue, AwaitsAsPusher, PushedFits, Fits}
use Rattle.lfm_laws.specs.steady.Views.{is_queued}
use Rattle.lfm_laws.proofs.lawful.read.WatchedRead.{head_posted, carried_posted}
use Rattle.lfm_laws.proofs.steady.handoff.Handoffs.{posted_of, same_handoff_true}
use Rattle.lfm_laws.proofs.steady.frames.Seated.{seat_of_point}
use Rattle.lfm_laws.proofs.steady.queue.Serving.{queue_of_queued}

-- what the exchange finds if some seat is queued
abbrev Finds : Core → Type 0
Finds c = (0 < c.push.next) × (c.popped ≡ [])

finds_record : (c : Core) (g : Ghost) → Fits c g → g.place ≡ posted → HasQueue g → Finds c
finds_record c g fits place some =
    (head_posted c g fits place some, (carried_posted g.place g.walk c.popped place fits.words.carried).1)

-- a locker that has pushed is queued itself; a sender knows that some seat is queued
pusher_queue : (c : Core) (g : Ghost) (s : ℕ) (pusher : Pusher) (seen : Handoff) → Fits c g → g.place ≡ posted → c.handoff ≡ seen → 0 < seen.seat
    → AwaitsAsPusher g.place s (g.standing s) pusher → PushedFits c g seen pusher → HasQueue g
pusher_queue c g s Pusher.Locker seen fits place same above awaits knows =
    let awaits = rw place at awaits in queue_of_queued c g s fits (sym (or-false (is_queued (g.standing s))) ∙ awaits)
pusher_queue c g s (Pusher.Sender t) seen fits place same above awaits knows = knows same above

-- if the handoff word is the post that was seen, the place is posted
place_of_won : (c : Core) (g : Ghost) (seen : Handoff) → Fits c g → c.handoff ≡ seen → 0 < seen.seat → g.place ≡ posted
place_of_won c g seen fits same above = posted_of c.seats g.place c.handoff (omega (arith, ap (λ h. h.seat) same, above)) fits.words.handoff

pusher_wins : (c : Core) (g : Ghost) (s : ℕ) (pusher : Pusher) (seen : Handoff) → Fits c g → (seat c.seats s).point ≡ PushedHandoffExchange pusher seen
    → same_handoff c.handoff seen ≡ true → Finds c
pusher_wins c g s pusher seen fits at won =
    let knows = rw at at (fits.each s).knows in
    let stands = rw at at (fits.each s).stands in
    let same = same_handoff_true c.handoff seen won in
    let place = place_of_won c g seen fits same knows.0.above in
    finds_record c g fits place (pusher_queue c g s pusher seen fits place same knows.0.above stands knows.1)

poster_wins : (c : Core) (g : Ghost) (s : ℕ) (releaser : Releaser) → Fits c g → (seat c.seats s).point ≡ ReleaseHandoffExchange releaser
    → same_handoff c.handoff (record { seat = s; post = (seat c.seats s).posts }) ≡ true → Finds c
poster_wins c g s releaser fits at won =
    let knows = rw at at (fits.each s).knows in
    let same = same_handoff_true c.handoff (record { seat = s; post = (seat c.seats s).posts }) won in
    let is = seat_of_point c.seats s (λ rests. let other = sym at ∙ rests in cc) in
    let place = place_of_won c g (record { seat = s; post = (seat c.seats s).posts }) fits same is.above in
    finds_record c g fits place (knows same is.above)

-- only these two kinds of exchange take over a post

abbrev is_take : Option Case → Bool
is_take (Some take) = true
is_take _ = false

not_taken : (k : Option Case) → is_take k ≡ false → k ≡ Some take → ⊥
not_taken k other e = false≢true (sym other ∙ ap is_take e)

either : (b : Bool) (k l : Option Case) → is_take k ≡ false → is_take l ≡ false → is_take (if b then k else l) ≡ false
either true k l first second = first
either false k l first second = second

enters_other : (entrant : Entrant) (how : How) → is_take (Some (enters_by entrant how)) ≡ false
enters_other Entrant.Locker How.Free = refl
enters_other Entrant.Locker (How.Queued stamp) = refl
enters_other Entrant.Trier how = refl
enters_other Entrant.Receiver how = refl

takes_up_other : (w : Wake) → is_take (takes_up w) ≡ false
takes_up_other (Grant stamp) = refl
takes_up_other _ = refl

wins_at : (c : Core) (g : Ghost) (s : ℕ) (p : Point) → Fits c g → (seat c.seats s).point ≡ p → case_at c s (seat c.seats s) p ≡ Some take → Finds c
wins_at c g s (PushedHandoffExchange pusher seen) fits at takes =
    elim (cases_Bool (same_handoff c.handoff seen)) [
      | inl won ↦ pusher_wins c g s pusher seen fits at won
      | inr lost ↦ let none = rw lost at takes in absurd (cc)
    ]
wins_at c g s (ReleaseHandoffExchange releaser) fits at takes =
    elim (cases_Bool (same_handoff c.handoff (record { seat = s; post = (seat c.seats s).posts }))) [
      | inl won ↦ poster_wins c g s releaser fits at won
      | inr lost ↦ let none = rw lost at takes in absurd (cc)
    ]
wins_at c g s LockCountAdd fits at takes =
    absurd (not_taken _ (either (nat_eq c.count 0) _ _ refl (either (nat_eq (seat c.seats s).depth 0) _ _ refl refl)) takes)
wins_at c g s TryCountExchange fits at takes = absurd (not_taken _ (either (nat_eq c.count 0) _ _ refl refl) takes)
wins_at c g s (EnterOwnerStore entrant how) fits at takes = absurd (not_taken _ (enters_other entrant how) takes)
wins_at c g s (PushExchange pusher seen) fits at takes = absurd (not_taken _ (either (same_link c.push seen) _ _ refl refl) takes)
wins_at c g s (TryHandoffExchange seen) fits at takes = absurd (not_taken _ (either (same_handoff c.handoff seen) _ _ refl refl) takes)
wins_at c g s (ReceiveWakeLoad sleeper) fits at takes = absurd (not_taken _ (takes_up_other (wake c.wakes s)) takes)
wins_at c g s _ fits at takes = absurd (not_taken _ refl takes)

pub won_posts_have_a_record : WonPostsHaveARecord
won_posts_have_a_record c s is takes =
    let steady = is in
    wins_at c steady.ghost_state s (seat c.seats s).point steady.fits refl takes
