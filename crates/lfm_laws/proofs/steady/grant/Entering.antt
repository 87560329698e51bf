-- A seat reaches the owner store of a call that found the mutex free, and then owns the mutex.
use Rattle.std.proofs.Common.{◌≡◌, ℕ, ◌+◌, ◌<◌, ◌≤◌, Some, None, [], refl, sym, ◌∙◌, arith}
use Rattle.std.proofs.lemmas.Bool.{eq-eqb}
use Rattle.lfm_model.specs.declared.answers.How.{How}
use Rattle.lfm_model.specs.Abstract as Abstract
use Rattle.lfm_model.specs.AbstractRuns.{ask}
use Rattle.lfm_protocol.specs.declared.points.Entrant.{Entrant}
use Rattle.lfm_protocol.specs.declared.points.Point.{Point}
use Rattle.lfm_protocol.specs.declared.points.Point.TheVariants.{EnterOwnerStore}
use Rattle.lfm_words.specs.declared.wakes.Wake.TheVariants.{Quiet}
use Rattle.lfm_protocol.specs.Core.{Core, put}
use Rattle.lfm_laws.specs.steady.Ghost.{Responsibility, nobody, owned, granted, posted, entering, accepting, leaving, serving, Standing, apart, queued, Ghost}
use Rattle.lfm_laws.specs.steady.EventOutcome.{EventOutcome, abstract, GoesBy}
use Rattle.lfm_protocol.specs.Seats.{seat, wake, IsSeat}
use Rattle.lfm_laws.specs.steady.Steady.{EntersFits, StandsAt, StandsAsEntrant, own_unit, again_unit, WorkFits, SeatFits, Fits}
use Rattle.lfm_laws.specs.steady.Views.{claim_to_enter, held_by, grant_at, wake_at, asks_for_at, claims_for_at, due_posts_at}
use Rattle.lfm_laws.proofs.steady.frames.Frames.{place_moves}
use Rattle.lfm_laws.proofs.steady.frames.Histories.{history_stays}

-- The count is 0 exactly if the place is `nobody`

place_of_none : (p : Responsibility) (count asking pushed popped : ℕ) → popped ≤ pushed → count + popped ≡ asking + pushed + own_unit p + again_unit p
    → WorkFits p asking pushed popped → count ≡ 0 → p ≡ nobody
place_of_none nobody count asking pushed popped most sum work none = refl
place_of_none (owned s again) count asking pushed popped most sum work none = absurd (omega (arith, most, sum, none))
place_of_none (granted s stamp) count asking pushed popped most sum work none = absurd (omega (arith, most, sum, none))
place_of_none posted count asking pushed popped most sum work none = absurd (omega (arith, most, sum, work, none))
place_of_none (entering s into stamp) count asking pushed popped most sum work none = absurd (omega (arith, most, sum, none))
place_of_none (accepting s) count asking pushed popped most sum work none = absurd (omega (arith, most, sum, work, none))
place_of_none (leaving s) count asking pushed popped most sum work none = absurd (omega (arith, most, sum, none))
place_of_none (serving s) count asking pushed popped most sum work none = absurd (omega (arith, most, sum, work, none))

pub nobody_of_none : (c : Core) (g : Ghost) → Fits c g → c.count ≡ 0 → g.place ≡ nobody
nobody_of_none c g fits none =
    place_of_none g.place c.count g.asking g.pushed g.popped (omega (arith, fits.words.parts)) fits.words.count fits.words.work none

-- The seat that enters

claim_free : (s : ℕ) (entrant : Entrant) → claim_to_enter s entrant How.Free ≡ entering s s 0
claim_free s Entrant.Locker = refl
claim_free s Entrant.Trier = refl
claim_free s Entrant.Receiver = refl

stands_free : (standing : Standing) (entrant : Entrant) → standing ≡ apart → StandsAsEntrant standing entrant How.Free
stands_free standing Entrant.Locker stands = stands
stands_free standing Entrant.Trier stands = stands
stands_free standing Entrant.Receiver stands = stands

knows_free : (c : Core) (g : Ghost) (s : ℕ) (entrant : Entrant) → EntersFits c g s entrant How.Free
knows_free c g s Entrant.Locker = tt
knows_free c g s Entrant.Trier = refl
knows_free c g s Entrant.Receiver = tt

pub apart_not_queued : (standing : Standing) (stamp : ℕ) → standing ≡ apart → standing ≡ queued stamp → ⊥
apart_not_queued standing stamp e f = cc

entering_held : (s : ℕ) → held_by (entering s s 0) s ≡ nobody → ⊥
entering_held s = rw (eq-eqb s s refl) (λ e. cc)

-- what seat s keeps until it enters
pub record Enters (c : Core) (g : Ghost) (s takes posts : ℕ) : Type 0 where
  pub quiet : wake c.wakes s ≡ Quiet
  pub stands : g.standing s ≡ apart
  pub number : c.handoff.seat ≡ s → 0 < s → c.handoff.post ≡ posts
  pub taken : takes ≤ c.budget
  pub paid : posts + 1 ≤ takes
  pub pushed : g.pushes s ≤ takes

pub entering_own : (c : Core) (g : Ghost) (s takes posts : ℕ) (entrant : Entrant) → Enters c g s takes posts
    → SeatFits c (record g { place = entering s s 0 }) s (record { depth = 0; takes = takes; posts = posts; point = EnterOwnerStore entrant How.Free }) (wake c.wakes s)
entering_own c g s takes posts entrant enters =
    record {
      claims = claim_free s entrant ∙ rw (eq-eqb s s refl) refl;
      woken = enters.quiet;
      granted = λ some. absurd (cc some);
      entered = λ into none. absurd (entering_held s none);
      listed = λ stamp waits. absurd (apart_not_queued (g.standing s) stamp enters.stands waits);
      stands = stands_free (g.standing s) entrant enters.stands;
      depth = refl;
      knows = knows_free c (record g { place = entering s s 0 }) s entrant;
      number = enters.number;
      takes = enters.taken;
      posts = enters.paid;
      pushes = omega (arith, enters.pushed);
      watches = λ place here. absurd (cc place);
    }

-- What a seat keeps at a point p from which it may enter with its next step
pub record MayEnter (s : ℕ) (p : Point) : Type 0 where
  pub quiet : (place : Responsibility) (standing : Standing) → wake_at place standing s p ≡ Quiet
  pub stands : (place : Responsibility) (standing : Standing) → StandsAt place 0 s standing p → standing ≡ apart
  pub due : due_posts_at 0 p ≡ 1
  pub asks_none : asks_for_at 0 s p ≡ 0
  pub claims_none : claims_for_at p ≡ 0

pub enters_of : (c : Core) (g : Ghost) (s takes posts : ℕ) (p : Point) → MayEnter s p → grant_at g.place s ≡ None
    → SeatFits c g s (record { depth = 0; takes = takes; posts = posts; point = p }) (wake c.wakes s) → Enters c g s takes posts
enters_of c g s takes posts p may none here =
    record {
      quiet = rw none at here.woken ∙ may.quiet g.place (g.standing s);
      stands = may.stands g.place (g.standing s) here.stands;
      number = here.number;
      taken = here.takes;
      paid = omega (arith, here.posts, may.due);
      pushed = omega (arith, here.pushes);
    }

-- the place is `nobody`, and seat s gains the responsibility
pub enters_free : (c : Core) (g : Ghost) (s takes posts : ℕ) (p : Point) (entrant : Entrant) → IsSeat c.seats s
    → seat c.seats s ≡ record { depth = 0; takes = takes; posts = posts; point = p } → MayEnter s p → Fits c g → c.count ≡ 0
    → Fits (put (record c { count = 1 }) s (record { depth = 0; takes = takes; posts = posts; point = EnterOwnerStore entrant How.Free }))
    (record g { place = entering s s 0 })
enters_free c g s takes posts p entrant is at may fits none =
    let place = nobody_of_none c g fits none in
    let here = rw at at (fits.each s) in
    let units : own_unit g.place + again_unit g.place ≡ 0 = rw place refl in
    place_moves c g s _ 1 c.owner (entering s s 0) g.answered is fits
    (record {
      errands = record { asks_same = rw at (sym may.asks_none); claims_same = rw at (sym may.claims_none); posts_same = rw at refl };
      before = rw place tt;
      after = (refl, refl);
      owns = rw place at fits.words.owner;
      units = omega (arith, units, none);
      work = tt;
      carried = rw place at fits.words.carried;
      last = λ some. absurd (omega (arith, some));
      answers = rw place at fits.words.answers;
      own = entering_own c g s takes posts entrant (enters_of c g s takes posts p may (rw place refl) here);
    })

pub goes_free : (c : Core) (g : Ghost) (s : ℕ) → Fits c g → c.count ≡ 0 → GoesBy (Some ask) (abstract g) (abstract (record g { place = entering s s 0 }))
goes_free c g s fits none =
    let place = nobody_of_none c g fits none in
    (Abstract.ask_free s s (record { before = rw place refl; after = refl; asking = λ t. refl; waiting = refl }), refl)

pub enters_freely : (c : Core) (g : Ghost) (s takes posts : ℕ) (p : Point) (entrant : Entrant) → IsSeat c.seats s
    → seat c.seats s ≡ record { depth = 0; takes = takes; posts = posts; point = p } → MayEnter s p → Fits c g → c.count ≡ 0
    → EventOutcome g (put (record c { count = 1 }) s (record { depth = 0; takes = takes; posts = posts; point = EnterOwnerStore entrant How.Free })) (Some ask) [] [] []
enters_freely c g s takes posts p entrant is at may fits none =
    record {
      to = record g { place = entering s s 0 };
      fits = enters_free c g s takes posts p entrant is at may fits none;
      goes = goes_free c g s fits none;
      history = history_stays g (record g { place = entering s s 0 }) refl refl refl refl;
    }
