-- The owner store of a call that comes to hold: a lock that found the mutex free, a try_lock, or a receive.
use Rattle.std.proofs.Common.{◌≡◌, ℕ, false, ◌+◌, Some, [], refl, sym, ap, ◌∙◌, arith}
use Rattle.std.proofs.lemmas.Bool.{eq-eqb, ne_eqb}
use Rattle.lfm_model.specs.declared.answers.How.{How}
use Rattle.lfm_model.specs.Abstract as Abstract
use Rattle.lfm_model.specs.AbstractRuns.{enter}
use Rattle.lfm_protocol.specs.declared.points.Entrant.{Entrant}
use Rattle.lfm_protocol.specs.declared.points.Point.{Point}
use Rattle.lfm_protocol.specs.declared.points.Point.TheVariants.{Rest, EnterOwnerStore}
use Rattle.lfm_protocol.specs.Core.{Core, put}
use Rattle.lfm_laws.specs.steady.Ghost.{owned, entering, Standing, apart, Ghost}
use Rattle.lfm_laws.specs.steady.EventOutcome.{EventOutcome, Kept, abstract, GoesBy}
use Rattle.lfm_protocol.specs.Seats.{seat, wake, IsSeat}
use Rattle.lfm_laws.specs.steady.Steady.{StandsAsEntrant, own_unit, again_unit, unanswered, SeatFits, Fits}
use Rattle.lfm_laws.proofs.steady.grant.Entering.{Enters, MayEnter, enters_of, apart_not_queued}
use Rattle.lfm_laws.proofs.steady.frames.Frames.{place_moves, place_of_claim}
use Rattle.lfm_laws.proofs.steady.frames.Histories.{history_stays, history_answers}

-- a seat may enter from the owner store if it is apart there
may_enter : (s : ℕ) (entrant : Entrant) (how : How) → ((standing : Standing) → StandsAsEntrant standing entrant how → standing ≡ apart) → MayEnter s (EnterOwnerStore entrant how)
may_enter s entrant how stands =
    record {
      quiet = λ place standing. refl;
      stands = λ place standing here. stands standing here;
      due = refl;
      asks_none = refl;
      claims_none = refl;
    }

-- the seat fits as an owner
holds_own : (c : Core) (g : Ghost) (s takes posts answered : ℕ) → Enters c g s takes posts
    → SeatFits c (record g { place = owned s false; answered = answered }) s (record { depth = 1; takes = takes; posts = posts; point = Rest }) (wake c.wakes s)
holds_own c g s takes posts answered enters =
    record {
      claims = rw (eq-eqb s s refl) refl;
      woken = enters.quiet;
      granted = λ granted. absurd (cc granted);
      entered = λ into none. absurd (cc into);
      listed = λ stamp waits. absurd (apart_not_queued (g.standing s) stamp enters.stands waits);
      stands = enters.stands;
      depth = omega arith;
      knows = tt;
      number = enters.number;
      takes = enters.taken;
      posts = enters.paid;
      pushes = omega (arith, enters.pushed);
      watches = λ e f. absurd (cc e);
    }

-- seat s stores its number, having entered with this stamp
holds : (c : Core) (g : Ghost) (s takes posts stamp answered : ℕ) (p : Point) → IsSeat c.seats s
    → seat c.seats s ≡ record { depth = 0; takes = takes; posts = posts; point = p } → MayEnter s p → g.place ≡ entering s s stamp → answered ≡ g.popped → Fits c g
    → Fits (put (record c { owner = s }) s (record { depth = 1; takes = takes; posts = posts; point = Rest })) (record g { place = owned s false; answered = answered })
holds c g s takes posts stamp answered p is at may place answers fits =
    let here = rw at at (fits.each s) in
    let unit : own_unit g.place ≡ 1 = rw place refl in
    let again : again_unit g.place ≡ 0 = rw place refl in
    place_moves c g s _ c.count s (owned s false) answered is fits
    (record {
      errands = record { asks_same = rw at (sym may.asks_none); claims_same = rw at (sym may.claims_none); posts_same = rw at refl };
      before = rw place (refl, refl);
      after = refl;
      owns = refl;
      units = omega (arith, unit, again);
      work = tt;
      carried = rw place at fits.words.carried;
      last = tt;
      answers = omega (arith, answers);
      own = holds_own c g s takes posts answered (enters_of c g s takes posts p may (rw place refl) here);
    })

goes_in : (g : Ghost) (s stamp answered : ℕ) → g.place ≡ entering s s stamp → GoesBy (Some enter) (abstract g) (abstract (record g { place = owned s false; answered = answered }))
goes_in g s stamp answered place =
    (Abstract.enter s s (record { before = rw place refl; after = rw (eq-eqb s s refl) refl; asking = λ t. refl; waiting = refl }), refl)

-- the mutex was free
holds_free : (c : Core) (g : Ghost) (s takes posts : ℕ) (p : Point) → IsSeat c.seats s
    → seat c.seats s ≡ record { depth = 0; takes = takes; posts = posts; point = p } → MayEnter s p → g.place ≡ entering s s 0 → Fits c g
    → EventOutcome g (put (record c { owner = s }) s (record { depth = 1; takes = takes; posts = posts; point = Rest })) (Some enter) [] [] []
holds_free c g s takes posts p is at may place fits =
    let answers : g.answered ≡ g.popped = let e = rw place at fits.words.answers in omega (arith, e) in
    let h : Ghost = record g { place = owned s false } in
    record {
      to = h;
      fits = holds c g s takes posts 0 g.answered p is at may place answers fits;
      goes = goes_in g s 0 g.answered place;
      history = history_stays g h refl refl refl refl;
    }

locker_stores : (c : Core) (g : Ghost) (s takes posts : ℕ) → IsSeat c.seats s
    → seat c.seats s ≡ record { depth = 0; takes = takes; posts = posts; point = EnterOwnerStore Entrant.Locker How.Free } → Fits c g → Kept c g s
locker_stores c g s takes posts is at fits =
    let here = rw at at (fits.each s) in
    let place : g.place ≡ entering s s 0 = place_of_claim g.place (entering s s 0) s (λ e. cc) here.claims in
    rw (at, at) (holds_free c g s takes posts (EnterOwnerStore Entrant.Locker How.Free) is at (may_enter s Entrant.Locker How.Free (λ standing stands. stands)) place fits)

-- a seat at the owner store has no depth
at_store : (c : Core) (g : Ghost) (s : ℕ) (entrant : Entrant) (how : How) → (seat c.seats s).point ≡ EnterOwnerStore entrant how → Fits c g
    → seat c.seats s ≡ record { depth = 0; takes = (seat c.seats s).takes; posts = (seat c.seats s).posts; point = EnterOwnerStore entrant how }
at_store c g s entrant how at fits =
    let x = seat c.seats s in
    let depth : x.depth ≡ 0 = rw at at (fits.each s).depth in
    λ i. record { depth = depth i; takes = x.takes; posts = x.posts; point = at i }

pub at_EnterOwnerStore_Locker : (c : Core) (g : Ghost) (s : ℕ) → IsSeat c.seats s → (seat c.seats s).point ≡ EnterOwnerStore Entrant.Locker How.Free → Fits c g → Kept c g s
at_EnterOwnerStore_Locker c g s is at fits =
    let x = seat c.seats s in
    locker_stores c g s x.takes x.posts is (at_store c g s Entrant.Locker How.Free at fits) fits

-- a try_lock has not waited

trier_stores : (c : Core) (g : Ghost) (s takes posts : ℕ) → IsSeat c.seats s
    → seat c.seats s ≡ record { depth = 0; takes = takes; posts = posts; point = EnterOwnerStore Entrant.Trier How.Free } → Fits c g → Kept c g s
trier_stores c g s takes posts is at fits =
    let here = rw at at (fits.each s) in
    let place : g.place ≡ entering s s 0 = place_of_claim g.place (entering s s 0) s (λ e. cc) here.claims in
    rw (at, at) (holds_free c g s takes posts (EnterOwnerStore Entrant.Trier How.Free) is at (may_enter s Entrant.Trier How.Free (λ standing stands. stands)) place fits)

pub at_EnterOwnerStore_Trier : (c : Core) (g : Ghost) (s : ℕ) (how : How) → IsSeat c.seats s → (seat c.seats s).point ≡ EnterOwnerStore Entrant.Trier how → Fits c g → Kept c g s
at_EnterOwnerStore_Trier c g s how is at fits =
    let x = seat c.seats s in
    let free : how ≡ How.Free = rw at at (fits.each s).knows in
    trier_stores c g s x.takes x.posts is (at_store c g s Entrant.Trier How.Free (at ∙ ap (EnterOwnerStore Entrant.Trier) free) fits) fits

-- a receive got the grant of the record popped last, or a free grant

receiver_stores_free : (c : Core) (g : Ghost) (s takes posts : ℕ) → IsSeat c.seats s
    → seat c.seats s ≡ record { depth = 0; takes = takes; posts = posts; point = EnterOwnerStore Entrant.Receiver How.Free } → Fits c g → Kept c g s
receiver_stores_free c g s takes posts is at fits =
    let here = rw at at (fits.each s) in
    let place : g.place ≡ entering s s 0 = place_of_claim g.place (entering s s 0) s (λ e. cc) here.claims in
    rw (at, at) (holds_free c g s takes posts (EnterOwnerStore Entrant.Receiver How.Free) is at (may_enter s Entrant.Receiver How.Free (λ standing stands. stands)) place fits)

receiver_stores_queued : (c : Core) (g : Ghost) (s takes posts stamp : ℕ) → IsSeat c.seats s
    → seat c.seats s ≡ record { depth = 0; takes = takes; posts = posts; point = EnterOwnerStore Entrant.Receiver (How.Queued stamp) } → Fits c g → Kept c g s
receiver_stores_queued c g s takes posts stamp is at fits =
    let here = rw at at (fits.each s) in
    let place : g.place ≡ entering s s stamp = place_of_claim g.place (entering s s stamp) s (λ e. cc) here.claims in
    let last : (stamp ≡ g.popped) × (g.pushed_at stamp ≡ s) = (rw place at fits.words.last) here.knows in
    let counts : unanswered g.place ≡ 1 = rw (place, ne_eqb stamp 0 (omega (arith, here.knows))) refl in
    let next : g.answered + 1 ≡ stamp = omega (arith, last.0, counts, fits.words.answers) in
    let h : Ghost = record g { place = owned s false; answered = g.answered + 1 } in
    rw (at, at)
    (record {
      to = h;
      fits = holds c g s takes posts stamp (g.answered + 1) (EnterOwnerStore Entrant.Receiver (How.Queued stamp)) is at
          (may_enter s Entrant.Receiver (How.Queued stamp) (λ standing stands. stands)) place (next ∙ last.0) fits;
      goes = goes_in g s stamp (g.answered + 1) place;
      history = history_answers g h (record { seat = s; stamp = stamp }) refl refl refl refl (rw (next, last.1) refl);
    })

receiver_stores : (c : Core) (g : Ghost) (s takes posts : ℕ) (how : How) → IsSeat c.seats s
    → seat c.seats s ≡ record { depth = 0; takes = takes; posts = posts; point = EnterOwnerStore Entrant.Receiver how } → Fits c g → Kept c g s
receiver_stores c g s takes posts How.Free is at fits = receiver_stores_free c g s takes posts is at fits
receiver_stores c g s takes posts (How.Queued stamp) is at fits = receiver_stores_queued c g s takes posts stamp is at fits

pub at_EnterOwnerStore_Receiver : (c : Core) (g : Ghost) (s : ℕ) (how : How) → IsSeat c.seats s → (seat c.seats s).point ≡ EnterOwnerStore Entrant.Receiver how → Fits c g → Kept c g s
at_EnterOwnerStore_Receiver c g s how is at fits =
    let x = seat c.seats s in
    receiver_stores c g s x.takes x.posts how is (at_store c g s Entrant.Receiver how at fits) fits
