-- The steps of receive, and the store by which a seat becomes a waiter, keep a state steady.
use Rattle.std.proofs.Common.{◌≡◌, ◌≢◌, ℕ, true, refl, sym, ap, ◌∙◌, inl, inr, arith}
use Rattle.std.proofs.lemmas.Bool.{cases_eq, eq-eqb, ne_eqb}
use Rattle.lfm_model.specs.declared.answers.Unlocked.{Unlocked}
use Rattle.lfm_model.specs.Abstract as Abstract
use Rattle.lfm_protocol.specs.declared.points.Point.TheVariants.{Asleep, EnterOwnerStore, ReceiveWakeLoad, ReceiveWakeStore, WaitWakeStore}
use Rattle.lfm_protocol.specs.declared.points.Entrant.TheVariants as Entrant
use Rattle.lfm_protocol.specs.After.{how_granted}
use Rattle.lfm_protocol.specs.declared.points.Sleeper.{Sleeper}
use Rattle.lfm_words.specs.declared.wakes.Wake.{Wake}
use Rattle.lfm_words.specs.declared.wakes.Wake.TheVariants.{Quiet, Waiting, Grant}
use Rattle.lfm_protocol.specs.Core.{Core, put}
use Rattle.lfm_laws.specs.steady.Ghost.{Ghost, entering, granted}
use Rattle.lfm_laws.specs.steady.EventOutcome.{Kept}
use Rattle.lfm_protocol.specs.Seats.{seat, wake, IsSeat}
use Rattle.lfm_laws.specs.steady.Steady.{EntersFits, SeatFits, Fits}
use Rattle.lfm_laws.specs.steady.Views.{is_some, grant_at, is_entered, stamp_of, held_by}
use Rattle.lfm_laws.proofs.steady.frames.Frames.{wake_moves, view_moves, place_moves}
use Rattle.lfm_laws.proofs.steady.frames.Histories.{history_stays}
use Rattle.lfm_laws.proofs.steady.grant.Wakings.{none_from, false_from, place_of_grant, grant_of_load, wake_to_load}

-- The store by which a seat becomes a waiter

waits_own : (c : Core) (g : Ghost) (s depth takes posts : ℕ) (released : Unlocked) (w : Wake)
    → SeatFits c g s (record { depth = depth; takes = takes; posts = posts; point = WaitWakeStore released }) w
    → SeatFits c g s (record { depth = depth; takes = takes; posts = posts; point = Asleep Sleeper.Waiter }) Waiting
waits_own c g s depth takes posts released w here =
    let unknown : is_some (grant_at g.place s) ≢ true = λ some. let f = (here.granted some).0 in cc in
    let strange : is_entered g.place s ≢ true = λ is. let f = (here.entered is (sym here.claims)).0 in cc in
    let none = none_from (grant_at g.place s) unknown in
    let entered = false_from (is_entered g.place s) strange in
    record {
      claims = here.claims;
      woken = rw (none, here.stands, entered);
      granted = λ some. absurd (unknown some);
      entered = λ is held. absurd (strange is);
      listed = here.listed;
      stands = tt;
      depth = here.depth;
      knows = tt;
      number = here.number;
      takes = here.takes;
      posts = here.posts;
      pushes = here.pushes;
      watches = here.watches;
    }

pub at_WaitWakeStore : (c : Core) (g : Ghost) (s : ℕ) (released : Unlocked) → IsSeat c.seats s → (seat c.seats s).point ≡ WaitWakeStore released → Fits c g → Kept c g s
at_WaitWakeStore c g s released is at fits =
    let x = seat c.seats s in
    let own = waits_own c g s x.depth x.takes x.posts released (wake c.wakes s) (rw at at (fits.each s)) in
    rw (at, at) (record {
      to = g;
      fits = wake_moves c g s (record (seat c.seats s) { point = Asleep Sleeper.Waiter }) Waiting is fits (record { asks_same = rw at; claims_same = rw at; posts_same = refl }) own;
      goes = record { place = refl; asking = λ x. refl; waiting = refl };
      history = history_stays g g refl refl refl refl;
    })

-- The store that empties the wake word of its grant

-- the way in which a grant was gained gives back its stamp
stamp_of_granted : (stamp : ℕ) → stamp_of (how_granted stamp) ≡ stamp
stamp_of_granted stamp =
    elim (cases_eq stamp 0) [
      | inl free ↦ rw (eq-eqb stamp 0 free) (sym free)
      | inr queued ↦ rw (ne_eqb stamp 0 queued)
    ]

enters_fits : (c : Core) (g : Ghost) (s stamp : ℕ) → EntersFits c g s Entrant.Receiver (how_granted stamp)
enters_fits c g s stamp =
    elim (cases_eq stamp 0) [
      | inl free ↦ rw (eq-eqb stamp 0 free) tt
      | inr queued ↦ rw (ne_eqb stamp 0 queued) (omega arith)
    ]

wiped_own : (c : Core) (g : Ghost) (s depth takes posts stamp : ℕ) (w : Wake)
    → SeatFits c g s (record { depth = depth; takes = takes; posts = posts; point = ReceiveWakeStore stamp }) w
    → SeatFits c g s (record { depth = depth; takes = takes; posts = posts; point = EnterOwnerStore Entrant.Receiver (how_granted stamp) }) Quiet
wiped_own c g s depth takes posts stamp w here =
    let unknown : is_some (grant_at g.place s) ≢ true = λ some. let f = (here.granted some).0 in cc in
    let none = none_from (grant_at g.place s) unknown in
    record {
      claims = ap (λ n. entering s s n) (stamp_of_granted stamp) ∙ here.claims;
      woken = rw none;
      granted = λ some. absurd (unknown some);
      entered = λ is held. let f = here.claims ∙ held in cc;
      listed = here.listed;
      stands = here.stands;
      depth = here.depth;
      knows = enters_fits c g s stamp;
      number = here.number;
      takes = here.takes;
      posts = here.posts;
      pushes = here.pushes;
      watches = here.watches;
    }

pub at_ReceiveWakeStore : (c : Core) (g : Ghost) (s stamp : ℕ) → IsSeat c.seats s → (seat c.seats s).point ≡ ReceiveWakeStore stamp → Fits c g → Kept c g s
at_ReceiveWakeStore c g s stamp is at fits =
    let x = seat c.seats s in
    let own = wiped_own c g s x.depth x.takes x.posts stamp (wake c.wakes s) (rw at at (fits.each s)) in
    rw (at, at) (record {
      to = g;
      fits = wake_moves c g s (record (seat c.seats s) { point = EnterOwnerStore Entrant.Receiver (how_granted stamp) }) Quiet is fits (record { asks_same = rw at; claims_same = rw at; posts_same = refl }) own;
      goes = record { place = refl; asking = λ x. refl; waiting = refl };
      history = history_stays g g refl refl refl refl;
    })

-- The wake load that finds a grant

loaded_own : (c : Core) (g : Ghost) (s depth takes posts stamp : ℕ) (sleeper : Sleeper)
    → g.place ≡ granted s stamp
    → SeatFits c g s (record { depth = depth; takes = takes; posts = posts; point = ReceiveWakeLoad sleeper }) (Grant stamp)
    → SeatFits c (record g { place = entering s s stamp }) s (record { depth = depth; takes = takes; posts = posts; point = ReceiveWakeStore stamp }) (Grant stamp)
loaded_own c g s depth takes posts stamp sleeper place here =
    let own : entering s s stamp ≡ held_by (entering s s stamp) s = sym (rw (eq-eqb s s refl)) in
    record {
      claims = own;
      woken = refl;
      granted = λ some. cc;
      entered = λ is held. let f = own ∙ held in cc;
      listed = λ n e. let q = here.listed n e in record { above = q.above; within = q.within; here = q.here };
      stands = (here.granted (rw (place, eq-eqb s s refl))).1;
      depth = here.depth;
      knows = tt;
      number = here.number;
      takes = here.takes;
      posts = here.posts;
      pushes = omega (arith, here.pushes);
      watches = λ e w. cc;
    }

takes_up_grant : (c : Core) (g : Ghost) (s stamp : ℕ) (sleeper : Sleeper) → IsSeat c.seats s → (seat c.seats s).point ≡ ReceiveWakeLoad sleeper
    → wake c.wakes s ≡ Grant stamp → g.place ≡ granted s stamp → Fits c g → Kept c g s
takes_up_grant c g s stamp sleeper is at found place fits =
    let x = seat c.seats s in
    let own = loaded_own c g s x.depth x.takes x.posts stamp sleeper place (rw (at, found) at (fits.each s)) in
    rw (at, at, found) (record {
      to = record g { place = entering s s stamp };
      fits = place_moves c g s (record (seat c.seats s) { point = ReceiveWakeStore stamp }) c.count c.owner (entering s s stamp) g.answered is fits (record {
        errands = record { asks_same = rw at; claims_same = rw at; posts_same = refl };
        before = rw place;
        after = (refl, refl);
        owns = fits.words.owner ∙ rw place;
        units = rw place;
        work = tt;
        carried = rw place at fits.words.carried;
        last = rw place at fits.words.last;
        answers = rw place at fits.words.answers;
        own = rw found own;
      });
      goes = (Abstract.take_up s (record { before = rw place; after = refl; asking = λ x. refl; waiting = refl }), refl);
      history = history_stays g _ refl refl refl refl;
    })

-- The wake load that finds none

slept_own : (c : Core) (g : Ghost) (s depth takes posts : ℕ) (sleeper : Sleeper) (w : Wake)
    → SeatFits c g s (record { depth = depth; takes = takes; posts = posts; point = ReceiveWakeLoad sleeper }) w
    → SeatFits c g s (record { depth = depth; takes = takes; posts = posts; point = Asleep sleeper }) w
slept_own c g s depth takes posts Sleeper.Locker w here =
    record {
      claims = here.claims;
      woken = here.woken ∙ wake_to_load g.place (g.standing s) s Sleeper.Locker;
      granted = here.granted;
      entered = here.entered;
      listed = here.listed;
      stands = here.stands;
      depth = here.depth;
      knows = tt;
      number = here.number;
      takes = here.takes;
      posts = here.posts;
      pushes = here.pushes;
      watches = here.watches;
    }
slept_own c g s depth takes posts Sleeper.Waiter w here =
    record {
      claims = here.claims;
      woken = here.woken ∙ wake_to_load g.place (g.standing s) s Sleeper.Waiter;
      granted = here.granted;
      entered = here.entered;
      listed = here.listed;
      stands = here.stands;
      depth = here.depth;
      knows = tt;
      number = here.number;
      takes = here.takes;
      posts = here.posts;
      pushes = here.pushes;
      watches = here.watches;
    }

sleeps_on : (c : Core) (g : Ghost) (s : ℕ) (sleeper : Sleeper) → IsSeat c.seats s → (seat c.seats s).point ≡ ReceiveWakeLoad sleeper → Fits c g
    → Fits (put c s (record (seat c.seats s) { point = Asleep sleeper })) g
sleeps_on c g s sleeper is at fits =
    let x = seat c.seats s in
    view_moves c g s (record (seat c.seats s) { point = Asleep sleeper }) is fits (record { asks_same = rw at; claims_same = rw at; posts_same = refl })
    (slept_own c g s x.depth x.takes x.posts sleeper (wake c.wakes s) (rw at at (fits.each s)))

at_load_of : (c : Core) (g : Ghost) (s : ℕ) (sleeper : Sleeper) (w : Wake) → IsSeat c.seats s → (seat c.seats s).point ≡ ReceiveWakeLoad sleeper
    → wake c.wakes s ≡ w → Fits c g → Kept c g s
at_load_of c g s sleeper (Grant stamp) is at found fits =
    takes_up_grant c g s stamp sleeper is at found
    (place_of_grant g.place s stamp (grant_of_load g.place (g.standing s) s stamp sleeper (rw (at, found) at (fits.each s).woken))) fits
at_load_of c g s sleeper _ is at found fits =
    rw (at, at, found) (record {
      to = g;
      fits = sleeps_on c g s sleeper is at fits;
      goes = record { place = refl; asking = λ x. refl; waiting = refl };
      history = history_stays g g refl refl refl refl;
    })

pub at_ReceiveWakeLoad : (c : Core) (g : Ghost) (s : ℕ) (sleeper : Sleeper) → IsSeat c.seats s → (seat c.seats s).point ≡ ReceiveWakeLoad sleeper → Fits c g → Kept c g s
at_ReceiveWakeLoad c g s sleeper is at fits = at_load_of c g s sleeper (wake c.wakes s) is at refl fits
