-- The steps of a try_lock except its handoff exchange and its owner store.
use Rattle.std.proofs.Common.{◌≡◌, ◌≢◌, ◌⊎◌, inl, inr, ℕ, zero, suc, true, false, nat_eq, ◌+◌, ◌-◌, ◌<◌, refl, sym, ap, ◌∙◌, arith}
use Rattle.std.proofs.lemmas.Bool.{cases_eq, eq-eqb, ne_eqb}
use Rattle.std.proofs.Math.Dec.{eqb-suc-zero}
use Rattle.lfm_protocol.specs.declared.points.Entrant.TheVariants as Entrant
use Rattle.lfm_protocol.specs.declared.points.Point.TheVariants.{Rest, TryCountExchange, TryOwnerLoad, TryHandoffLoad, TryHandoffExchange, TryCountAdd}
use Rattle.lfm_protocol.specs.Core.{Core, put}
use Rattle.lfm_laws.specs.steady.Ghost.{owned, entering, accepting, Ghost}
use Rattle.lfm_laws.specs.steady.EventOutcome.{Kept}
use Rattle.lfm_protocol.specs.Seats.{seat, IsSeat}
use Rattle.lfm_laws.specs.steady.Steady.{own_unit, again_unit, Fits}
use Rattle.lfm_laws.specs.steady.Views.{grant_at}
use Rattle.lfm_laws.proofs.steady.frames.Abstracts.{stays_same}
use Rattle.lfm_laws.proofs.steady.grant.Entering.{MayEnter, enters_of, entering_own, enters_freely, nobody_of_none}
use Rattle.lfm_laws.proofs.steady.frames.Frames.{view_moves, place_moves, place_of_claim}
use Rattle.lfm_laws.proofs.steady.frames.Histories.{history_stays}
use Rattle.lfm_laws.proofs.steady.frames.Quiet.{wake_by_same, view_kept, owner_of-held}

-- The count exchange

may_enter_trying : (s : ℕ) → MayEnter s TryCountExchange
may_enter_trying s =
    record {
      quiet = λ place standing. refl;
      stands = λ place standing stands. stands;
      due = refl;
      asks_none = refl;
      claims_none = refl;
    }

-- the count wasn't 0
exchange_fails : (c : Core) (g : Ghost) (s depth takes posts : ℕ) → IsSeat c.seats s
    → seat c.seats s ≡ record { depth = depth; takes = takes; posts = posts; point = TryCountExchange } → Fits c g
    → Fits (put c s (record { depth = depth; takes = takes; posts = posts; point = TryOwnerLoad })) g
exchange_fails c g s depth takes posts is at fits =
    let here = rw at at (fits.each s) in
    view_moves c g s _ is fits (record { asks_same = rw at refl; claims_same = rw at refl; posts_same = rw at refl })
    (record {
      claims = here.claims;
      woken = here.woken ∙ wake_by_same (grant_at g.place s) g.place (g.standing s) (g.standing s) s TryCountExchange TryOwnerLoad refl;
      granted = here.granted;
      entered = here.entered;
      listed = here.listed;
      stands = here.stands;
      depth = here.depth;
      knows = tt;
      number = here.number;
      takes = here.takes;
      posts = here.posts;
      pushes = here.pushes;
      watches = here.watches;
    })

count_exchange_at : (c : Core) (g : Ghost) (s depth takes posts : ℕ) → IsSeat c.seats s
    → seat c.seats s ≡ record { depth = depth; takes = takes; posts = posts; point = TryCountExchange } → Fits c g → (c.count ≡ 0) ⊎ (c.count ≢ 0) → Kept c g s
count_exchange_at c g s zero takes posts is at fits (inl none) =
    rw (at, at, none) (enters_freely c g s takes posts TryCountExchange Entrant.Trier is at (may_enter_trying s) fits none)
count_exchange_at c g s (suc d) takes posts is at fits (inl none) =
    let here = rw at at (fits.each s) in
    absurd (cc (rw (nobody_of_none c g fits none, eqb-suc-zero d) at here.claims))
count_exchange_at c g s depth takes posts is at fits (inr some) =
    let counted : nat_eq c.count 0 ≡ false = ne_eqb c.count 0 some in
    rw (at, at, counted) (view_kept g _ (exchange_fails c g s depth takes posts is at fits))

pub at_TryCountExchange : (c : Core) (g : Ghost) (s : ℕ) → IsSeat c.seats s → (seat c.seats s).point ≡ TryCountExchange → Fits c g → Kept c g s
at_TryCountExchange c g s is at fits =
    let x = seat c.seats s in
    count_exchange_at c g s x.depth x.takes x.posts is (ap (λ p. record (seat c.seats s) { point = p }) at) fits (cases_eq c.count 0)

-- The owner load

-- the owner is seat s itself
try_deepens : (c : Core) (g : Ghost) (s d takes posts : ℕ) → IsSeat c.seats s
    → seat c.seats s ≡ record { depth = suc d; takes = takes; posts = posts; point = TryOwnerLoad } → Fits c g
    → Fits (put c s (record { depth = suc d + 1; takes = takes; posts = posts; point = Rest })) g
try_deepens c g s d takes posts is at fits =
    let here = rw at at (fits.each s) in
    let deep : nat_eq (suc d + 1) 0 ≡ false = ne_eqb (suc d + 1) 0 (omega arith) in
    view_moves c g s _ is fits (record { asks_same = rw at refl; claims_same = rw at refl; posts_same = rw at refl })
    (record {
      claims = rw deep (rw (eqb-suc-zero d) at here.claims);
      woken = here.woken ∙ wake_by_same (grant_at g.place s) g.place (g.standing s) (g.standing s) s TryOwnerLoad Rest refl;
      granted = here.granted;
      entered = here.entered;
      listed = here.listed;
      stands = here.stands;
      depth = omega (arith, here.depth);
      knows = tt;
      number = here.number;
      takes = here.takes;
      posts = rw deep here.posts;
      pushes = rw (eqb-suc-zero d) at here.pushes;
      watches = here.watches;
    })

-- the owner is another seat or none
try_goes_on : (c : Core) (g : Ghost) (s takes posts : ℕ) → IsSeat c.seats s
    → seat c.seats s ≡ record { depth = 0; takes = takes; posts = posts; point = TryOwnerLoad } → Fits c g
    → Fits (put c s (record { depth = 0; takes = takes; posts = posts; point = TryHandoffLoad })) g
try_goes_on c g s takes posts is at fits =
    let here = rw at at (fits.each s) in
    view_moves c g s _ is fits (record { asks_same = rw at refl; claims_same = rw at refl; posts_same = rw at refl })
    (record {
      claims = here.claims;
      woken = here.woken ∙ wake_by_same (grant_at g.place s) g.place (g.standing s) (g.standing s) s TryOwnerLoad TryHandoffLoad refl;
      granted = here.granted;
      entered = here.entered;
      listed = here.listed;
      stands = here.stands;
      depth = refl;
      knows = tt;
      number = here.number;
      takes = here.takes;
      posts = here.posts;
      pushes = here.pushes;
      watches = here.watches;
    })

try_owner_load_at : (c : Core) (g : Ghost) (s depth takes posts : ℕ) → IsSeat c.seats s
    → seat c.seats s ≡ record { depth = depth; takes = takes; posts = posts; point = TryOwnerLoad } → Fits c g → Kept c g s
try_owner_load_at c g s zero takes posts is at fits =
    let here = rw at at (fits.each s) in
    let other : nat_eq c.owner s ≡ false = ne_eqb c.owner s (λ e. owner_of-held g.place s is.above (sym fits.words.owner ∙ e) (sym here.claims)) in
    rw (at, at, other) (view_kept g _ (try_goes_on c g s takes posts is at fits))
try_owner_load_at c g s (suc d) takes posts is at fits =
    let here = rw at at (fits.each s) in
    let place : g.place ≡ owned s false = place_of_claim g.place (owned s false) s (λ e. cc) (rw (eqb-suc-zero d) at here.claims) in
    let same : nat_eq c.owner s ≡ true = eq-eqb c.owner s (fits.words.owner ∙ rw place refl) in
    rw (at, at, same) (view_kept g _ (try_deepens c g s d takes posts is at fits))

pub at_TryOwnerLoad : (c : Core) (g : Ghost) (s : ℕ) → IsSeat c.seats s → (seat c.seats s).point ≡ TryOwnerLoad → Fits c g → Kept c g s
at_TryOwnerLoad c g s is at fits =
    let x = seat c.seats s in
    try_owner_load_at c g s x.depth x.takes x.posts is (ap (λ p. record (seat c.seats s) { point = p }) at) fits

-- The handoff load

-- nothing is posted: the charge is given back
gives_back : (c : Core) (g : Ghost) (s takes posts : ℕ) → IsSeat c.seats s
    → seat c.seats s ≡ record { depth = 0; takes = takes; posts = posts; point = TryHandoffLoad } → Fits c g
    → Fits (put c s (record { depth = 0; takes = takes - 1; posts = posts; point = Rest })) g
gives_back c g s takes posts is at fits =
    let here = rw at at (fits.each s) in
    view_moves c g s _ is fits (record { asks_same = rw at refl; claims_same = rw at refl; posts_same = rw at refl })
    (record {
      claims = here.claims;
      woken = here.woken ∙ wake_by_same (grant_at g.place s) g.place (g.standing s) (g.standing s) s TryHandoffLoad Rest refl;
      granted = here.granted;
      entered = here.entered;
      listed = here.listed;
      stands = here.stands;
      depth = omega arith;
      knows = tt;
      number = here.number;
      takes = omega (arith, here.takes);
      posts = omega (arith, here.posts);
      pushes = omega (arith, here.pushes);
      watches = here.watches;
    })

-- the mutex is posted
sees_post : (c : Core) (g : Ghost) (s takes posts : ℕ) → IsSeat c.seats s
    → seat c.seats s ≡ record { depth = 0; takes = takes; posts = posts; point = TryHandoffLoad } → 0 < c.handoff.seat → Fits c g
    → Fits (put c s (record { depth = 0; takes = takes; posts = posts; point = TryHandoffExchange c.handoff })) g
sees_post c g s takes posts is at above fits =
    let here = rw at at (fits.each s) in
    let last = (fits.each c.handoff.seat).number refl above in
    view_moves c g s _ is fits (record { asks_same = rw at refl; claims_same = rw at refl; posts_same = rw at refl })
    (record {
      claims = here.claims;
      woken = here.woken ∙ wake_by_same (grant_at g.place s) g.place (g.standing s) (g.standing s) s TryHandoffLoad (TryHandoffExchange c.handoff) refl;
      granted = here.granted;
      entered = here.entered;
      listed = here.listed;
      stands = here.stands;
      depth = refl;
      knows = record { above = above; before = omega (arith, last) };
      number = here.number;
      takes = here.takes;
      posts = here.posts;
      pushes = here.pushes;
      watches = here.watches;
    })

try_handoff_load_at : (c : Core) (g : Ghost) (s takes posts : ℕ) → IsSeat c.seats s
    → seat c.seats s ≡ record { depth = 0; takes = takes; posts = posts; point = TryHandoffLoad } → Fits c g → (c.handoff.seat ≡ 0) ⊎ (c.handoff.seat ≢ 0) → Kept c g s
try_handoff_load_at c g s takes posts is at fits (inl none) =
    let unposted : nat_eq c.handoff.seat 0 ≡ true = eq-eqb c.handoff.seat 0 none in
    rw (at, at, unposted) (view_kept g _ (gives_back c g s takes posts is at fits))
try_handoff_load_at c g s takes posts is at fits (inr some) =
    let found : nat_eq c.handoff.seat 0 ≡ false = ne_eqb c.handoff.seat 0 some in
    rw (at, at, found) (view_kept g _ (sees_post c g s takes posts is at (omega (arith, some)) fits))

pub at_TryHandoffLoad : (c : Core) (g : Ghost) (s : ℕ) → IsSeat c.seats s → (seat c.seats s).point ≡ TryHandoffLoad → Fits c g → Kept c g s
at_TryHandoffLoad c g s is at fits =
    let x = seat c.seats s in
    let depth : x.depth ≡ 0 = rw at at (fits.each s).depth in
    try_handoff_load_at c g s x.takes x.posts is (λ i. record { depth = depth i; takes = x.takes; posts = x.posts; point = at i }) fits (cases_eq c.handoff.seat 0)

-- The count add of a try_lock that has accepted a posted handoff

may_enter_accepting : (s : ℕ) → MayEnter s TryCountAdd
may_enter_accepting s =
    record {
      quiet = λ place standing. refl;
      stands = λ place standing stands. stands;
      due = refl;
      asks_none = refl;
      claims_none = refl;
    }

try_count_add_at : (c : Core) (g : Ghost) (s takes posts : ℕ) → IsSeat c.seats s
    → seat c.seats s ≡ record { depth = 0; takes = takes; posts = posts; point = TryCountAdd } → Fits c g → Kept c g s
try_count_add_at c g s takes posts is at fits =
    let here = rw at at (fits.each s) in
    let place : g.place ≡ accepting s = place_of_claim g.place (accepting s) s (λ e. cc) here.claims in
    let units : own_unit g.place + again_unit g.place ≡ 0 = rw place refl in
    let h : Ghost = record g { place = entering s s 0 } in
    rw (at, at)
    (record {
      to = h;
      fits = place_moves c g s _ (c.count + 1) c.owner (entering s s 0) g.answered is fits
          (record {
            errands = record { asks_same = rw at refl; claims_same = rw at refl; posts_same = rw at refl };
            before = rw place refl;
            after = (refl, refl);
            owns = rw place at fits.words.owner;
            units = omega (arith, units);
            work = tt;
            carried = rw place at fits.words.carried;
            last = λ some. absurd (omega (arith, some));
            answers = rw place at fits.words.answers;
            own = entering_own c g s takes posts Entrant.Trier (enters_of c g s takes posts TryCountAdd (may_enter_accepting s) (rw place refl) here);
          });
      goes = stays_same g h (rw place refl) (λ x. refl) refl;
      history = history_stays g h refl refl refl refl;
    })

pub at_TryCountAdd : (c : Core) (g : Ghost) (s : ℕ) → IsSeat c.seats s → (seat c.seats s).point ≡ TryCountAdd → Fits c g → Kept c g s
at_TryCountAdd c g s is at fits =
    let x = seat c.seats s in
    let depth : x.depth ≡ 0 = rw at at (fits.each s).depth in
    try_count_add_at c g s x.takes x.posts is (λ i. record { depth = depth i; takes = x.takes; posts = x.posts; point = at i }) fits
