-- Another seat makes a step, while a record is queued and no seat owns. The seat that has to go on keeps its point, so its
-- claim, its grant or its post stays, and so does its weight. Or the other seat takes the post or accepts it, and its weight
-- is lower.
use Rattle.std.proofs.Common.{◌≡◌, ◌≢◌, ℕ, ◌≤◌, Option, Some, None, List, length, refl, sym, ap, ◌∙◌, inl, inr, arith}
use Rattle.std.specs.Prelude.{⊤, ◌⊎◌}
use Rattle.std.proofs.lemmas.Bool.{cases_Bool, eq-eqb}
use Rattle.lfm_model.specs.Abstract.{AbstractPlace, AbstractStep, free, owner, passed, carried, brought_in}
use Rattle.lfm_model.specs.Abstract as Abstract
use Rattle.lfm_model.specs.AbstractRuns.{Case}
use Rattle.lfm_protocol.specs.declared.kinds.Word.{Word}
use Rattle.lfm_protocol.specs.declared.points.Point.{Point}
use Rattle.lfm_protocol.specs.declared.points.Point.TheVariants.{TryHandoffLoad, TryHandoffExchange, PushedHandoffLoad, PushedHandoffExchange, ReleaseHandoffStore, ReleaseHandoffExchange}
use Rattle.lfm_protocol.specs.declared.seats.SeatState.{SeatState}
use Rattle.lfm_words.specs.declared.handoffs.Handoff.{Handoff}
use Rattle.lfm_protocol.specs.After.{same_handoff}
use Rattle.lfm_protocol.specs.Core.{Core}
use Rattle.lfm_protocol.specs.Points.{kind, target}
use Rattle.lfm_protocol.specs.Seats.{seat, unposted, IsSeat}
use Rattle.lfm_protocol.specs.Step.{made}
use Rattle.lfm_laws.specs.laws.Cases.{GoesBy}
use Rattle.lfm_laws.specs.laws.Events.{case_of_step}
use Rattle.lfm_laws.specs.laws.Laws.{post_weight}
use Rattle.lfm_laws.specs.steady.Ghost as Places
use Rattle.lfm_laws.specs.steady.Ghost.{Responsibility, nobody, owned, posted, entering, accepting, leaving, serving, Ghost}
use Rattle.lfm_laws.specs.steady.EventOutcome.{abstract, abstract_place}
use Rattle.lfm_laws.specs.steady.Steady.{HasQueue, HandoffFits, Fits}
use Rattle.lfm_laws.specs.steady.Views.{claim, claim_at, held_by}
use Rattle.lfm_laws.specs.laws.TriedPosts.{SeatWillTry}
use Rattle.lfm_laws.proofs.lawful.bounds.Leaving.{other_made, size_made, KeepsSeat, step_leaves}
use Rattle.lfm_laws.proofs.lawful.bounds.NextPosts.{next_stays}
use Rattle.lfm_laws.proofs.lawful.touched.OneWord.{other_word}
use Rattle.lfm_laws.proofs.steady.frames.Frames.{place_of_claim}
use Rattle.lfm_laws.proofs.lawful.rounds.TriedPosts.{will_try_same}
use Rattle.lfm_laws.proofs.lawful.rounds.Weights.{carry_weight, grant_weight, try_weight, Due, try_weight-more, serving_weight, accepting_weight, entering_weight}
use Rattle.lfm_laws.proofs.lawful.rounds.OwnSteps.{WeightFell}

-- the responsibility is where it was, and the same seat has to go on
pub record Stays (d : Core) (g h : Ghost) (u m : ℕ) : Type 0 where
  pub place : abstract_place h.place ≡ abstract_place g.place
  pub due : Due d u m (abstract_place h.place)

-- A call that carries

pub carry_same : (c d : Core) (u : ℕ) → KeepsSeat c d u → carry_weight (seat d.seats u).point ≡ carry_weight (seat c.seats u).point
carry_same c d u leaves = rw leaves.view refl

carried_beside : (c : Core) (g h : Ghost) (t u m : ℕ) (p : Responsibility) (how : Abstract.Carrying) → claim (seat c.seats u) u ≡ p → p ≢ nobody → abstract_place p ≡ carried u how
    → g.place ≡ p → carry_weight (seat c.seats u).point ≤ m → Fits c g → u ≢ t → Fits (made c t).core h → Stays (made c t).core g h u m
carried_beside c g h t u m p how claims some by place more fits other after =
    let leaves = step_leaves c g t u fits other in
    let same = carry_same c (made c t).core u leaves in
    let here : p ≡ held_by h.place u = sym claims ∙ (rw leaves.view at (after.each u).claims) in
    let stays = place_of_claim h.place p u some here in
    record { place = rw (stays, place) refl; due = rw (stays, by) (refl, omega (arith, same, more)) }

-- A granted seat

carried_held : (q : Responsibility) (u : ℕ) (how : Abstract.Carrying) → abstract_place q ≡ carried u how → held_by q u ≢ nobody
carried_held (entering s into stamp) u how e none = let own : s ≡ u = cc in let f = rw (eq-eqb s u own) at none in cc
carried_held (accepting s) u how e none = let own : s ≡ u = cc in let f = rw (eq-eqb s u own) at none in cc
carried_held (leaving s) u how e none = let own : s ≡ u = cc in let f = rw (eq-eqb s u own) at none in cc
carried_held (serving s) u how e none = let own : s ≡ u = cc in let f = rw (eq-eqb s u own) at none in cc
carried_held nobody u how e none = cc
carried_held (owned s again) u how e none = cc
carried_held (Places.granted s stamp) u how e none = cc
carried_held posted u how e none = cc

passed_same : (c d : Core) (g h : Ghost) (u m : ℕ) → abstract_place g.place ≡ passed u → abstract_place h.place ≡ abstract_place g.place → seat d.seats u ≡ seat c.seats u
    → length d.seats ≡ length c.seats → grant_weight (seat c.seats u).point ≤ m → Stays d g h u m
passed_same c d g h u m place stays view size more = record { place = stays; due = rw (stays, place, view) (refl, more) }

passed_step : (c : Core) (g h : Ghost) (t u m : ℕ) → Fits c g → held_by g.place u ≡ nobody → abstract_place g.place ≡ passed u → u ≢ t → grant_weight (seat c.seats u).point ≤ m
    → Fits (made c t).core h → AbstractStep (abstract g) (abstract h) → Stays (made c t).core g h u m
passed_step c g h t u m fits none place other more after (Abstract.ask_joins x taken nothing joins) =
    passed_same c (made c t).core g h u m place joins.place (other_made c t u other) (size_made c t) more
passed_step c g h t u m fits none place other more after (Abstract.queue x queues) =
    passed_same c (made c t).core g h u m place queues.place (other_made c t u other) (size_made c t) more
passed_step c g h t u m fits none place other more after (Abstract.take_up x moves) =
    let before : passed x ≡ passed u = sym moves.before ∙ place in
    let own : x ≡ u = cc in
    let idle : held_by h.place u ≡ nobody = sym (rw (other_made c t u other) at (after.each u).claims) ∙ (fits.each u).claims ∙ none in
    absurd (carried_held h.place u (Abstract.entering u) (moves.after ∙ rw own refl) idle)
passed_step c g h t u m fits none place other more after (Abstract.ask_free s x moves) = absurd (let e : free ≡ passed u = sym moves.before ∙ place in cc)
passed_step c g h t u m fits none place other more after (Abstract.serve s w serves) = absurd (let e : carried s Abstract.serving ≡ passed u = sym serves.before ∙ place in cc)
passed_step c g h t u m fits none place other more after (Abstract.post s somebody moves) = absurd (let e : carried s Abstract.serving ≡ passed u = sym moves.before ∙ place in cc)
passed_step c g h t u m fits none place other more after (Abstract.take x moves) = absurd (let e : Abstract.posted ≡ passed u = sym moves.before ∙ place in cc)
passed_step c g h t u m fits none place other more after (Abstract.accept x moves) = absurd (let e : Abstract.posted ≡ passed u = sym moves.before ∙ place in cc)
passed_step c g h t u m fits none place other more after (Abstract.enter s x moves) = absurd (let e : carried s (Abstract.entering x) ≡ passed u = sym moves.before ∙ place in cc)
passed_step c g h t u m fits none place other more after (Abstract.release s moves) = absurd (let e : owner s ≡ passed u = sym moves.before ∙ place in cc)
passed_step c g h t u m fits none place other more after (Abstract.leave s to goes moves) = absurd (let e : carried s Abstract.leaving ≡ passed u = sym moves.before ∙ place in cc)

pub passed_case : (c : Core) (g h : Ghost) (t u m : ℕ) (k : Option Case) → Fits c g → held_by g.place u ≡ nobody → abstract_place g.place ≡ passed u → u ≢ t
    → grant_weight (seat c.seats u).point ≤ m → Fits (made c t).core h → GoesBy k (abstract g) (abstract h) → Stays (made c t).core g h u m
passed_case c g h t u m None fits none place other more after goes = passed_same c (made c t).core g h u m place goes.place (other_made c t u other) (size_made c t) more
passed_case c g h t u m (Some case) fits none place other more after goes = passed_step c g h t u m fits none place other more after goes.0

-- A posted handoff

-- while the handoff stays posted, its word stays the same
still_posted : (d : Core) (h : Ghost) → Fits d h → abstract_place h.place ≡ Abstract.posted → d.handoff ≡ unposted → ⊥
still_posted d h after place none =
    let is : IsSeat d.seats d.handoff.seat = by_place d.seats h.place d.handoff place after.words.handoff in
    let zero : d.handoff.seat ≡ 0 = ap (λ (n : Handoff). n.seat) none in
    omega (arith, is.above, zero)
  where
    by_place : (seats : List SeatState) (p : Responsibility) (n : Handoff) → abstract_place p ≡ Abstract.posted → HandoffFits seats p n → IsSeat seats n.seat
    by_place seats posted n e fits = fits
    by_place seats nobody n e fits = absurd (cc)
    by_place seats (owned s again) n e fits = absurd (cc)
    by_place seats (Places.granted s stamp) n e fits = absurd (cc)
    by_place seats (entering s into stamp) n e fits = absurd (cc)
    by_place seats (accepting s) n e fits = absurd (cc)
    by_place seats (leaving s) n e fits = absurd (cc)
    by_place seats (serving s) n e fits = absurd (cc)

pub handoff_stays : (c : Core) (g h : Ghost) (t : ℕ) (p : Point) → (seat c.seats t).point ≡ p → Fits c g → g.place ≡ posted → Fits (made c t).core h
    → abstract_place h.place ≡ Abstract.posted → (made c t).core.handoff ≡ c.handoff
handoff_stays c g h t (ReleaseHandoffStore releaser) at fits place after stays =
    let claims : serving t ≡ held_by g.place t = rw at at (fits.each t).claims in
    let idle : serving t ≡ nobody = rw place at claims in
    absurd (cc)
handoff_stays c g h t (PushedHandoffExchange pusher seen) at fits place after stays =
    elim (cases_Bool (same_handoff c.handoff seen)) [
      | inl won ↦ absurd (still_posted (made c t).core h after stays (rw (at, at, won) refl))
      | inr lost ↦ rw (at, at, lost) refl
    ]
handoff_stays c g h t (TryHandoffExchange seen) at fits place after stays =
    elim (cases_Bool (same_handoff c.handoff seen)) [
      | inl won ↦ absurd (still_posted (made c t).core h after stays (rw (at, at, won) refl))
      | inr lost ↦ rw (at, at, lost) refl
    ]
handoff_stays c g h t (ReleaseHandoffExchange releaser) at fits place after stays =
    elim (cases_Bool (same_handoff c.handoff (record { seat = t; post = (seat c.seats t).posts }))) [
      | inl won ↦ absurd (still_posted (made c t).core h after stays (rw (at, at, won) refl))
      | inr lost ↦ rw (at, at, lost) refl
    ]
handoff_stays c g h t (PushedHandoffLoad pusher) at fits place after stays = rw at refl
handoff_stays c g h t TryHandoffLoad at fits place after stays = rw at refl
handoff_stays c g h t p at fits place after stays = rw at (other_word c t (target p t) (kind p) Word.Handoff (λ e. cc))

posted_same : (c : Core) (g h : Ghost) (t u m : ℕ) → Fits c g → g.place ≡ posted → u ≢ t → SeatWillTry c u → try_weight (seat c.seats u).point ≤ m → Fits (made c t).core h
    → abstract_place h.place ≡ abstract_place g.place → Stays (made c t).core g h u m
posted_same c g h t u m fits place other tries more after stays =
    let word = handoff_stays c g h t (seat c.seats t).point refl fits place after (stays ∙ ap abstract_place place) in
    record {
      place = stays;
      due = rw (stays, place, other_made c t u other) (will_try_same c (made c t).core u (seat c.seats u) (seat c.seats u).point word tries, more);
    }

serving_place : (p : Responsibility) (s : ℕ) → abstract_place p ≡ carried s Abstract.serving → p ≡ serving s
serving_place (serving t) s e = cc
serving_place nobody s e = absurd (cc)
serving_place (owned t again) s e = absurd (cc)
serving_place (Places.granted t stamp) s e = absurd (cc)
serving_place posted s e = absurd (cc)
serving_place (entering t into stamp) s e = absurd (cc)
serving_place (accepting t) s e = absurd (cc)
serving_place (leaving t) s e = absurd (cc)

idle_posts : (depth s : ℕ) (p : Point) → claim_at depth s p ≡ nobody → post_weight p ≡ 0
idle_posts depth s (ReleaseHandoffStore releaser) idle = absurd (cc)
idle_posts depth s _ idle = refl

-- the seat that takes the post
taken : (c : Core) (g h : Ghost) (t u m x : ℕ) → Fits c g → HasQueue g → IsSeat c.seats t → g.place ≡ posted → 5 ≤ m → Fits (made c t).core h
    → abstract_place h.place ≡ carried x Abstract.serving → WeightFell (made c t).core h m
taken c g h t u m x fits some is place more after to =
    let size = size_made c t in
    let here = serving_place h.place x to in
    let claims : claim_at (seat (made c t).core.seats x).depth x (seat (made c t).core.seats x).point ≡ serving x = (after.each x).claims ∙ rw (here, eq-eqb x x refl) refl in
    let idle : claim_at (seat c.seats x).depth x (seat c.seats x).point ≡ nobody = (fits.each x).claims ∙ rw place refl in
    let before = idle_posts (seat c.seats x).depth x (seat c.seats x).point idle in
    let next = next_stays c g t x fits some is in
    let weight = serving_weight (seat (made c t).core.seats x).depth x (seat (made c t).core.seats x).point claims (omega (arith, before, next)) in
    record { who = x; left = 2; less = omega (arith, more); due = rw to (refl, omega (arith, weight, size)) }

-- the seat that accepts the post
accepts_weight : (d : Core) (h : Ghost) (x : ℕ) (q : Responsibility) → h.place ≡ q → Fits d h → abstract_place q ≡ carried x (Abstract.entering x)
    → carry_weight (seat d.seats x).point ≤ 4
accepts_weight d h x (entering s into stamp) here after to =
    let own : s ≡ x = cc in
    let same : into ≡ x = cc in
    let claims : claim_at (seat d.seats x).depth x (seat d.seats x).point ≡ entering x into stamp = (after.each x).claims ∙ rw (here, own, eq-eqb x x refl) refl in
    entering_weight (seat d.seats x).depth x into stamp (seat d.seats x).point claims same (λ t e. rw e at (after.each x).knows)
accepts_weight d h x (accepting s) here after to =
    let own : s ≡ x = cc in
    let claims : claim_at (seat d.seats x).depth x (seat d.seats x).point ≡ accepting x = (after.each x).claims ∙ rw (here, own, eq-eqb x x refl) refl in
    accepting_weight (seat d.seats x).depth x (seat d.seats x).point claims
accepts_weight d h x nobody here after to = absurd (cc)
accepts_weight d h x (owned t again) here after to = absurd (cc)
accepts_weight d h x (Places.granted t stamp) here after to = absurd (cc)
accepts_weight d h x posted here after to = absurd (cc)
accepts_weight d h x (leaving t) here after to = absurd (cc)
accepts_weight d h x (serving t) here after to = absurd (cc)

accepted : (c : Core) (h : Ghost) (t m x : ℕ) → 5 ≤ m → Fits (made c t).core h → abstract_place h.place ≡ carried x (Abstract.entering x) → WeightFell (made c t).core h m
accepted c h t m x more after to =
    let size = size_made c t in
    let weight = accepts_weight (made c t).core h x h.place refl after to in
    record { who = x; left = 4; less = omega (arith, more); due = rw to (refl, omega (arith, weight, size)) }

posted_step : (c : Core) (g h : Ghost) (t u m : ℕ) → Fits c g → HasQueue g → IsSeat c.seats t → g.place ≡ posted → u ≢ t → SeatWillTry c u → try_weight (seat c.seats u).point ≤ m
    → Fits (made c t).core h → AbstractStep (abstract g) (abstract h) → WeightFell (made c t).core h m ⊎ Stays (made c t).core g h u m
posted_step c g h t u m fits some is place other tries more after (Abstract.ask_joins x taken nothing joins) = inr (posted_same c g h t u m fits place other tries more after joins.place)
posted_step c g h t u m fits some is place other tries more after (Abstract.queue x queues) = inr (posted_same c g h t u m fits place other tries more after queues.place)
posted_step c g h t u m fits some is place other tries more after (Abstract.take x moves) =
    let least = try_weight-more (seat c.seats u).point in
    inl (taken c g h t u m x fits some is place (omega (arith, least, more)) after moves.after)
posted_step c g h t u m fits some is place other tries more after (Abstract.accept x moves) =
    let least = try_weight-more (seat c.seats u).point in
    inl (accepted c h t m x (omega (arith, least, more)) after moves.after)
posted_step c g h t u m fits some is place other tries more after (Abstract.take_up x moves) = absurd (let e : passed x ≡ Abstract.posted = sym moves.before ∙ ap abstract_place place in cc)
posted_step c g h t u m fits some is place other tries more after (Abstract.ask_free s x moves) = absurd (let e : free ≡ Abstract.posted = sym moves.before ∙ ap abstract_place place in cc)
posted_step c g h t u m fits some is place other tries more after (Abstract.serve s w serves) = absurd (let e : carried s Abstract.serving ≡ Abstract.posted = sym serves.before ∙ ap abstract_place place in cc)
posted_step c g h t u m fits some is place other tries more after (Abstract.post s somebody moves) = absurd (let e : carried s Abstract.serving ≡ Abstract.posted = sym moves.before ∙ ap abstract_place place in cc)
posted_step c g h t u m fits some is place other tries more after (Abstract.enter s x moves) = absurd (let e : carried s (Abstract.entering x) ≡ Abstract.posted = sym moves.before ∙ ap abstract_place place in cc)
posted_step c g h t u m fits some is place other tries more after (Abstract.release s moves) = absurd (let e : owner s ≡ Abstract.posted = sym moves.before ∙ ap abstract_place place in cc)
posted_step c g h t u m fits some is place other tries more after (Abstract.leave s to goes moves) = absurd (let e : carried s Abstract.leaving ≡ Abstract.posted = sym moves.before ∙ ap abstract_place place in cc)

posted_case : (c : Core) (g h : Ghost) (t u m : ℕ) (k : Option Case) → Fits c g → HasQueue g → IsSeat c.seats t → g.place ≡ posted → u ≢ t → SeatWillTry c u
    → try_weight (seat c.seats u).point ≤ m → Fits (made c t).core h → GoesBy k (abstract g) (abstract h) → WeightFell (made c t).core h m ⊎ Stays (made c t).core g h u m
posted_case c g h t u m None fits some is place other tries more after goes = inr (posted_same c g h t u m fits place other tries more after goes.place)
posted_case c g h t u m (Some case) fits some is place other tries more after goes = posted_step c g h t u m fits some is place other tries more after goes.0

-- By places

abbrev pub IsOwned : AbstractPlace → Type 0
IsOwned (owner s) = ⊤
IsOwned _ = ⊥

beside_at : (c : Core) (g h : Ghost) (t u m : ℕ) (k : Option Case) (p : Responsibility) → g.place ≡ p → (IsOwned (abstract_place p) → ⊥) → Fits c g → HasQueue g → IsSeat c.seats t → u ≢ t
    → Due c u m (abstract_place p) → Fits (made c t).core h → GoesBy k (abstract g) (abstract h) → WeightFell (made c t).core h m ⊎ Stays (made c t).core g h u m
beside_at c g h t u m k nobody place unowned fits some is other due after goes = absurd due
beside_at c g h t u m k (owned s again) place unowned fits some is other due after goes = absurd (unowned tt)
beside_at c g h t u m k (Places.granted s stamp) place unowned fits some is other due after goes =
    inr (passed_case c g h t u m k fits (rw place refl) (ap abstract_place place ∙ ap passed (sym due.0)) other due.1 after goes)
beside_at c g h t u m k posted place unowned fits some is other due after goes = posted_case c g h t u m k fits some is place other due.0 due.1 after goes
beside_at c g h t u m k (entering s into stamp) place unowned fits some is other due after goes =
    inr (carried_beside c g h t u m (entering s into stamp) (Abstract.entering into) ((fits.each u).claims ∙ rw (place, eq-eqb s u (sym due.0)) refl) (λ e. cc)
    (ap (λ x. carried x (Abstract.entering into)) (sym due.0)) place due.1 fits other after)
beside_at c g h t u m k (accepting s) place unowned fits some is other due after goes =
    inr (carried_beside c g h t u m (accepting s) (Abstract.entering s) ((fits.each u).claims ∙ rw (place, eq-eqb s u (sym due.0)) refl) (λ e. cc)
    (ap (λ x. carried x (Abstract.entering s)) (sym due.0)) place due.1 fits other after)
beside_at c g h t u m k (leaving s) place unowned fits some is other due after goes =
    inr (carried_beside c g h t u m (leaving s) Abstract.leaving ((fits.each u).claims ∙ rw (place, eq-eqb s u (sym due.0)) refl) (λ e. cc)
    (ap (λ x. carried x Abstract.leaving) (sym due.0)) place due.1 fits other after)
beside_at c g h t u m k (serving s) place unowned fits some is other due after goes =
    inr (carried_beside c g h t u m (serving s) Abstract.serving ((fits.each u).claims ∙ rw (place, eq-eqb s u (sym due.0)) refl) (λ e. cc)
    (ap (λ x. carried x Abstract.serving) (sym due.0)) place due.1 fits other after)

pub beside : (c : Core) (g h : Ghost) (t u m : ℕ) → (IsOwned (abstract_place g.place) → ⊥) → Fits c g → HasQueue g → IsSeat c.seats t → u ≢ t → Due c u m (abstract_place g.place)
    → Fits (made c t).core h → GoesBy (case_of_step c t) (abstract g) (abstract h) → WeightFell (made c t).core h m ⊎ Stays (made c t).core g h u m
beside c g h t u m unowned fits some is other due after goes = beside_at c g h t u m (case_of_step c t) g.place refl unowned fits some is other due after goes
