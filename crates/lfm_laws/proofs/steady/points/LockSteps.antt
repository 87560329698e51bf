-- The count add of a lock, its owner load, and the subtract of a recursive one.
use Rattle.std.proofs.Common.{◌≡◌, ◌≢◌, ℕ, zero, suc, true, false, ◌+◌, ◌-◌, ◌<◌, inl, inr, refl, sym, ap, ◌∙◌, arith}
use Rattle.std.specs.Prelude.{◌⊎◌, nat_eq}
use Rattle.std.proofs.lemmas.Bool.{cases_eq, eq-eqb, ne_eqb}
use Rattle.std.proofs.Math.Dec.{eqb-suc-zero}
use Rattle.lfm_protocol.specs.declared.points.Entrant.TheVariants as Entrant
use Rattle.lfm_protocol.specs.declared.points.Point.TheVariants.{Rest, LockCountAdd, LockOwnerLoad, LockCountSubtract, PushLoad}
use Rattle.lfm_protocol.specs.declared.points.Pusher.TheVariants as Pusher
use Rattle.lfm_protocol.specs.Core.{Core, put}
use Rattle.lfm_laws.specs.steady.Ghost.{owned, apart, asks, Ghost}
use Rattle.lfm_laws.specs.steady.EventOutcome.{Kept}
use Rattle.lfm_protocol.specs.Limits.{max_depth}
use Rattle.lfm_protocol.specs.Seats.{seat, wake, IsSeat}
use Rattle.lfm_laws.specs.steady.Steady.{SeatFits, Fits, own_unit, again_unit}
use Rattle.lfm_laws.specs.steady.Views.{grant_at}
use Rattle.lfm_laws.proofs.steady.grant.Entering.{MayEnter, enters_freely, nobody_of_none}
use Rattle.lfm_laws.proofs.steady.grant.Joining.{joined, joins_itself, joining_itself_asks}
use Rattle.lfm_laws.proofs.steady.frames.Frames.{view_moves, place_moves, place_of_claim}
use Rattle.lfm_laws.proofs.steady.frames.Histories.{history_stays}
use Rattle.lfm_laws.proofs.steady.frames.Abstracts.{stays_same}
use Rattle.lfm_laws.proofs.steady.frames.Quiet.{wake_by_same, view_kept, owner_of-held}
use Rattle.lfm_laws.proofs.steady.frames.Sums.{changed_same}

-- The owner load

-- the owner is seat s itself
owner_found : (c : Core) (g : Ghost) (s d takes posts : ℕ) → IsSeat c.seats s
    → seat c.seats s ≡ record { depth = suc d; takes = takes; posts = posts; point = LockOwnerLoad } → Fits c g
    → Fits (put c s (record { depth = suc d; takes = takes; posts = posts; point = LockCountSubtract })) g
owner_found c g s d takes posts is at fits =
    let here = rw at at (fits.each s) in
    view_moves c g s _ is fits (record { asks_same = rw (at, eqb-suc-zero d) refl; claims_same = rw at refl; posts_same = rw at refl })
    (record {
      claims = rw (eqb-suc-zero d) at here.claims;
      woken = here.woken ∙ wake_by_same (grant_at g.place s) g.place (g.standing s) (g.standing s) s LockOwnerLoad LockCountSubtract refl;
      granted = here.granted;
      entered = here.entered;
      listed = here.listed;
      stands = rw (eqb-suc-zero d) at here.stands;
      depth = (omega arith, here.depth);
      knows = tt;
      number = here.number;
      takes = here.takes;
      posts = here.posts;
      pushes = rw (eqb-suc-zero d) at here.pushes;
      watches = λ e f. absurd (omega (arith, here.watches e f));
    })

-- the owner is another seat or none
owner_missed : (c : Core) (g : Ghost) (s takes posts : ℕ) → IsSeat c.seats s
    → seat c.seats s ≡ record { depth = 0; takes = takes; posts = posts; point = LockOwnerLoad } → Fits c g
    → Fits (put c s (record { depth = 0; takes = takes; posts = posts; point = PushLoad Pusher.Locker })) g
owner_missed c g s takes posts is at fits =
    let here = rw at at (fits.each s) in
    view_moves c g s _ is fits (record { asks_same = rw at refl; claims_same = rw at refl; posts_same = rw at refl })
    (record {
      claims = here.claims;
      woken = here.woken ∙ wake_by_same (grant_at g.place s) g.place (g.standing s) (g.standing s) s LockOwnerLoad (PushLoad Pusher.Locker) refl;
      granted = here.granted;
      entered = here.entered;
      listed = here.listed;
      stands = here.stands;
      depth = refl;
      knows = tt;
      number = here.number;
      takes = here.takes;
      posts = here.posts;
      pushes = here.pushes;
      watches = λ e f. tt;
    })

owner_load_at : (c : Core) (g : Ghost) (s depth takes posts : ℕ) → IsSeat c.seats s
    → seat c.seats s ≡ record { depth = depth; takes = takes; posts = posts; point = LockOwnerLoad } → Fits c g → Kept c g s
owner_load_at c g s zero takes posts is at fits =
    let here = rw at at (fits.each s) in
    let other : nat_eq c.owner s ≡ false = ne_eqb c.owner s (λ e. owner_of-held g.place s is.above (sym fits.words.owner ∙ e) (sym here.claims)) in
    rw (at, at, other) (view_kept g _ (owner_missed c g s takes posts is at fits))
owner_load_at c g s (suc d) takes posts is at fits =
    let here = rw at at (fits.each s) in
    let place : g.place ≡ owned s true = place_of_claim g.place (owned s true) s (λ e. cc) (rw (eqb-suc-zero d) at here.claims) in
    let same : nat_eq c.owner s ≡ true = eq-eqb c.owner s (fits.words.owner ∙ rw place refl) in
    rw (at, at, same) (view_kept g _ (owner_found c g s d takes posts is at fits))

pub at_LockOwnerLoad : (c : Core) (g : Ghost) (s : ℕ) → IsSeat c.seats s → (seat c.seats s).point ≡ LockOwnerLoad → Fits c g → Kept c g s
at_LockOwnerLoad c g s is at fits =
    let x = seat c.seats s in
    owner_load_at c g s x.depth x.takes x.posts is (ap (λ p. record (seat c.seats s) { point = p }) at) fits

-- The count add

may_enter_locking : (s : ℕ) → MayEnter s LockCountAdd
may_enter_locking s =
    record {
      quiet = λ place standing. refl;
      stands = λ place standing stands. stands;
      due = refl;
      asks_none = refl;
      claims_none = refl;
    }

-- the owner counts itself once more
deepens_own : (c : Core) (g : Ghost) (s d takes posts : ℕ) → g.place ≡ owned s false
    → SeatFits c g s (record { depth = suc d; takes = takes; posts = posts; point = LockCountAdd }) (wake c.wakes s)
    → SeatFits c (record g { place = owned s true }) s (record { depth = suc d; takes = takes; posts = posts; point = LockOwnerLoad }) (wake c.wakes s)
deepens_own c g s d takes posts place here =
    record {
      claims = rw (eqb-suc-zero d, eq-eqb s s refl) refl;
      woken = rw place at here.woken;
      granted = rw place at here.granted;
      entered = λ into none. absurd (cc into);
      listed = λ stamp waits. let l = here.listed stamp waits in record { above = l.above; within = l.within; here = l.here };
      stands = rw (eqb-suc-zero d) here.stands;
      depth = here.depth;
      knows = tt;
      number = here.number;
      takes = here.takes;
      posts = here.posts;
      pushes = here.pushes;
      watches = λ e f. absurd (cc e);
    }

count_deepens : (c : Core) (g : Ghost) (s d takes posts : ℕ) → IsSeat c.seats s
    → seat c.seats s ≡ record { depth = suc d; takes = takes; posts = posts; point = LockCountAdd } → g.place ≡ owned s false → Fits c g
    → Fits (put (record c { count = c.count + 1 }) s (record { depth = suc d; takes = takes; posts = posts; point = LockOwnerLoad })) (record g { place = owned s true })
count_deepens c g s d takes posts is at place fits =
    let here = rw at at (fits.each s) in
    let unit : own_unit g.place ≡ 1 = rw place refl in
    let again : again_unit g.place ≡ 0 = rw place refl in
    place_moves c g s _ (c.count + 1) c.owner (owned s true) g.answered is fits
    (record {
      errands = record { asks_same = rw (at, eqb-suc-zero d) refl; claims_same = rw at refl; posts_same = rw at refl };
      before = rw place refl;
      after = refl;
      owns = rw place at fits.words.owner;
      units = omega (arith, unit, again);
      work = tt;
      carried = rw place at fits.words.carried;
      last = tt;
      answers = rw place at fits.words.answers;
      own = deepens_own c g s d takes posts place here;
    })

-- seat s holds nothing, and the mutex is not free
joins_own : (c : Core) (g : Ghost) (s takes posts : ℕ) → g.standing s ≡ apart
    → SeatFits c g s (record { depth = 0; takes = takes; posts = posts; point = LockCountAdd }) (wake c.wakes s)
    → SeatFits c (joined g s s) s (record { depth = 0; takes = takes; posts = posts; point = LockOwnerLoad }) (wake c.wakes s)
joins_own c g s takes posts stands here =
    let now : (joined g s s).standing s ≡ asks s = changed_same g.standing s (asks s) in
    record {
      claims = here.claims;
      woken = here.woken ∙ wake_by_same (grant_at g.place s) g.place (g.standing s) ((joined g s s).standing s) s LockCountAdd LockOwnerLoad refl;
      granted = λ some. absurd (cc (here.granted some).0);
      entered = λ into none. absurd (cc (here.entered into none).0);
      listed = λ stamp waits. absurd (cc (sym now ∙ waits));
      stands = now;
      depth = here.depth;
      knows = tt;
      number = here.number;
      takes = here.takes;
      posts = here.posts;
      pushes = here.pushes;
      watches = λ e f. refl;
    }

count_joins : (c : Core) (g : Ghost) (s takes posts : ℕ) → IsSeat c.seats s
    → seat c.seats s ≡ record { depth = 0; takes = takes; posts = posts; point = LockCountAdd } → 0 < c.count → Fits c g
    → Fits (put (record c { count = c.count + 1 }) s (record { depth = 0; takes = takes; posts = posts; point = LockOwnerLoad })) (joined g s s)
count_joins c g s takes posts is at some fits =
    let here = rw at at (fits.each s) in
    joins_itself c g s _ is fits here.stands (rw at refl)
    (record {
      some = some;
      idle = rw at refl;
      asks_now = refl;
      claims_now = refl;
      posts_same = rw at refl;
      own = joins_own c g s takes posts here.stands here;
    })

count_add_at : (c : Core) (g : Ghost) (s depth takes posts : ℕ) → IsSeat c.seats s
    → seat c.seats s ≡ record { depth = depth; takes = takes; posts = posts; point = LockCountAdd } → Fits c g → (c.count ≡ 0) ⊎ (c.count ≢ 0) → Kept c g s
count_add_at c g s zero takes posts is at fits (inl none) =
    rw (at, at, none) (enters_freely c g s takes posts LockCountAdd Entrant.Locker is at (may_enter_locking s) fits none)
count_add_at c g s zero takes posts is at fits (inr some) =
    let counted : nat_eq c.count 0 ≡ false = ne_eqb c.count 0 some in
    rw (at, at, counted)
    (record {
      to = joined g s s;
      fits = count_joins c g s takes posts is at (omega (arith, some)) fits;
      goes = joining_itself_asks c g s fits (omega (arith, some)) (rw at refl) (rw at refl);
      history = history_stays g (joined g s s) refl refl refl refl;
    })
count_add_at c g s (suc d) takes posts is at fits (inl none) =
    let here = rw at at (fits.each s) in
    absurd (cc (rw (nobody_of_none c g fits none, eqb-suc-zero d) at here.claims))
count_add_at c g s (suc d) takes posts is at fits (inr some) =
    let here = rw at at (fits.each s) in
    let place : g.place ≡ owned s false = place_of_claim g.place (owned s false) s (λ e. cc) (rw (eqb-suc-zero d) at here.claims) in
    let counted : nat_eq c.count 0 ≡ false = ne_eqb c.count 0 some in
    let h : Ghost = record g { place = owned s true } in
    rw (at, at, counted, eqb-suc-zero d)
    (record {
      to = h;
      fits = count_deepens c g s d takes posts is at place fits;
      goes = stays_same g h (rw place refl) (λ x. refl) refl;
      history = history_stays g h refl refl refl refl;
    })

pub at_LockCountAdd : (c : Core) (g : Ghost) (s : ℕ) → IsSeat c.seats s → (seat c.seats s).point ≡ LockCountAdd → Fits c g → Kept c g s
at_LockCountAdd c g s is at fits =
    let x = seat c.seats s in
    count_add_at c g s x.depth x.takes x.posts is (ap (λ p. record (seat c.seats s) { point = p }) at) fits (cases_eq c.count 0)

-- The subtract of a recursive lock

subtracts_own : (c : Core) (g : Ghost) (s depth takes posts : ℕ) → g.place ≡ owned s true → 0 < depth → depth < max_depth
    → SeatFits c g s (record { depth = depth; takes = takes; posts = posts; point = LockCountSubtract }) (wake c.wakes s)
    → SeatFits c (record g { place = owned s false }) s (record { depth = depth + 1; takes = takes; posts = posts; point = Rest }) (wake c.wakes s)
subtracts_own c g s depth takes posts place some most here =
    let deep : nat_eq (depth + 1) 0 ≡ false = ne_eqb (depth + 1) 0 (omega arith) in
    record {
      claims = rw (deep, eq-eqb s s refl) refl;
      woken = rw place at here.woken;
      granted = λ granted. absurd (cc granted);
      entered = λ into none. absurd (cc into);
      listed = λ stamp waits. let l = here.listed stamp waits in record { above = l.above; within = l.within; here = l.here };
      stands = here.stands;
      depth = omega (arith, most);
      knows = tt;
      number = here.number;
      takes = here.takes;
      posts = rw deep here.posts;
      pushes = here.pushes;
      watches = λ e f. absurd (cc e);
    }

count_subtract_at : (c : Core) (g : Ghost) (s depth takes posts : ℕ) → IsSeat c.seats s
    → seat c.seats s ≡ record { depth = depth; takes = takes; posts = posts; point = LockCountSubtract } → Fits c g → Kept c g s
count_subtract_at c g s depth takes posts is at fits =
    let here = rw at at (fits.each s) in
    let place : g.place ≡ owned s true = place_of_claim g.place (owned s true) s (λ e. cc) here.claims in
    let unit : own_unit g.place ≡ 1 = rw place refl in
    let again : again_unit g.place ≡ 1 = rw place refl in
    let h : Ghost = record g { place = owned s false } in
    rw (at, at)
    (record {
      to = h;
      fits = place_moves c g s _ (c.count - 1) c.owner (owned s false) g.answered is fits
          (record {
            errands = record { asks_same = rw at refl; claims_same = rw at refl; posts_same = rw at refl };
            before = rw place refl;
            after = refl;
            owns = rw place at fits.words.owner;
            units = omega (arith, unit, again, fits.words.count, fits.words.parts);
            work = tt;
            carried = rw place at fits.words.carried;
            last = tt;
            answers = rw place at fits.words.answers;
            own = subtracts_own c g s depth takes posts place here.depth.0 here.depth.1 here;
          });
      goes = stays_same g h (rw place refl) (λ x. refl) refl;
      history = history_stays g h refl refl refl refl;
    })

pub at_LockCountSubtract : (c : Core) (g : Ghost) (s : ℕ) → IsSeat c.seats s → (seat c.seats s).point ≡ LockCountSubtract → Fits c g → Kept c g s
at_LockCountSubtract c g s is at fits =
    let x = seat c.seats s in
    count_subtract_at c g s x.depth x.takes x.posts is (ap (λ p. record (seat c.seats s) { point = p }) at) fits
