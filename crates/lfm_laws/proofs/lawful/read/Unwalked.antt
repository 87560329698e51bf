-- The seat whose link a carrier loads next is that of the newest record still to be collected, and 0 if there is none.
use Rattle.std.proofs.Common.{◌≡◌, ◌≢◌, ℕ, zero, suc, Bool, false, true, ◌+◌, List, [], ◌∷◌, get_or, refl, sym, ◌∙◌, inl, inr, arith}
use Rattle.std.proofs.lemmas.Bool.{cases_eq, eq-eqb, ne_eqb}
use Rattle.lfm_model.specs.declared.answers.How.{How}
use Rattle.lfm_protocol.specs.declared.points.Entrant.{Entrant}
use Rattle.lfm_protocol.specs.declared.points.Point.{Point}
use Rattle.lfm_protocol.specs.declared.points.Point.TheVariants.{Rest, Asleep, LockCountAdd, LockOwnerLoad, LockCountSubtract, TryCountExchange, TryOwnerLoad, TryHandoffLoad, TryHandoffExchange, TryCountAdd, SendWakeExchange, SendCountAdd, SendPushRecheck, SendWakeStore, PushLoad, LinkStore, PushExchange, PushedHandoffLoad, PushedHandoffExchange, ReleaseOwnerStore, ReleaseCountSubtract, ReleaseHandoffStore, ReleasePushRecheck, ReleaseHandoffExchange, WaitWakeStore, TakeClearHead, TakeLinkLoad, GrantWakeStore, EnterOwnerStore, ReceiveWakeLoad, ReceiveWakeStore}
use Rattle.lfm_protocol.specs.declared.points.Pusher.{Pusher}
use Rattle.lfm_protocol.specs.declared.seats.SeatState.{SeatState}
use Rattle.lfm_words.specs.declared.pop_lists.Record.{Record}
use Rattle.lfm_protocol.specs.Core.{Core}
use Rattle.lfm_laws.specs.steady.Ghost.{Responsibility, owned, posted, serving, Ghost}
use Rattle.lfm_protocol.specs.Queue.{unwalked_at, unwalked}
use Rattle.lfm_protocol.specs.Seats.{entry, seat, absent}
use Rattle.lfm_laws.specs.steady.Steady.{EntersFits, KnowsAt, CarriedFits, newest, Fits}
use Rattle.lfm_laws.specs.steady.Views.{by_depth, claim_to_enter, claim_of_pusher, claim_at, held_by}
use Rattle.lfm_laws.proofs.steady.frames.Frames.{held_by-other}
use Rattle.lfm_laws.proofs.steady.frames.Seated.{seat_of_stamp}
use Rattle.lfm_laws.proofs.steady.queue.Carrying.{nobody_serves}

-- no seat is collecting
unwalked_none : (seats : List SeatState) → ((n : ℕ) → unwalked_at (get_or seats n absent).point ≡ 0) → unwalked seats ≡ 0
unwalked_none [] idle = refl
unwalked_none (x ∷ seats) idle = rw (eq-eqb (unwalked_at x.point) 0 (idle 0)) (unwalked_none seats (λ n. idle (suc n)))

-- one seat is collecting
unwalked_one : (seats : List SeatState) (n next : ℕ) → next ≢ 0 → unwalked_at (get_or seats n absent).point ≡ next
    → ((m : ℕ) → m ≢ n → unwalked_at (get_or seats m absent).point ≡ 0) → unwalked seats ≡ next
unwalked_one [] n next some here idle = absurd (some (sym here))
unwalked_one (x ∷ seats) zero next some here idle =
    rw (ne_eqb (unwalked_at x.point) 0 (λ e. some (sym here ∙ e))) here
unwalked_one (x ∷ seats) (suc n) next some here idle =
    rw (eq-eqb (unwalked_at x.point) 0 (idle 0 (λ e. absurd (omega (arith, e))))) (unwalked_one seats n next some here (λ m other. idle (suc m) (λ e. other (omega (arith, e)))))

-- no seat is collecting, stated by the seats' numbers
unwalked_idle : (seats : List SeatState) → ((s : ℕ) → unwalked_at (seat seats s).point ≡ 0) → unwalked seats ≡ 0
unfolding entry
unwalked_idle seats idle = unwalked_none seats (λ n. idle (suc n))

unwalked_by : (seats : List SeatState) (s next : ℕ) → next ≢ 0 → unwalked_at (seat seats s).point ≡ next
    → ((t : ℕ) → t ≢ s → unwalked_at (seat seats t).point ≡ 0) → unwalked seats ≡ next
unfolding entry
unwalked_by seats zero next some here idle = absurd (some (sym here))
unwalked_by seats (suc n) next some here idle = unwalked_one seats n next some here (λ m other. idle (suc m) (λ e. other (omega (arith, e))))

-- only a seat that serves collects
serves_not : (depth s : ℕ) (p : Point) → claim_at depth s p ≢ serving s → unwalked_at p ≡ 0
serves_not depth s (TakeLinkLoad carrier next) other = absurd (other refl)
serves_not depth s _ other = refl

owned_serves : (s t : ℕ) (again : Bool) → owned s again ≢ serving t
owned_serves s t again e = cc

by_depth_serves : (depth s t : ℕ) (again : Bool) → by_depth depth s again ≢ serving t
by_depth_serves depth s t again e =
    elim (cases_eq depth 0) [
      | inl none ↦ nobody_serves t (rw (eq-eqb depth 0 none) at e)
      | inr some ↦ owned_serves s t again (rw (ne_eqb depth 0 some) at e)
    ]

pusher_serves : (depth s : ℕ) (pusher : Pusher) → claim_of_pusher depth s pusher ≢ serving s
pusher_serves depth s Pusher.Locker e = cc
pusher_serves depth s (Pusher.Sender t) e = by_depth_serves depth s s false e

-- a call that enters while it serves has nothing to collect
enters_walked : (c : Core) (g : Ghost) (s : ℕ) (entrant : Entrant) (how : How) → claim_to_enter s entrant how ≡ serving s → EntersFits c g s entrant how → g.walk ≡ 0
enters_walked c g s Entrant.Locker How.Free e knows = absurd (cc)
enters_walked c g s Entrant.Locker (How.Queued stamp) e knows = knows.0
enters_walked c g s Entrant.Trier how e knows = absurd (cc)
enters_walked c g s Entrant.Receiver how e knows = absurd (cc)

-- a seat that serves while records are still to be collected collects them
serves_walks : (c : Core) (g : Ghost) (s depth posts : ℕ) (p : Point) → claim_at depth s p ≡ serving s → KnowsAt c g s posts p → g.walk ≢ 0
    → unwalked_at p ≡ g.pushed_at (g.popped + g.walk)
serves_walks c g s depth posts Rest e knows some = absurd (by_depth_serves depth s s false e)
serves_walks c g s depth posts (Asleep sleeper) e knows some = absurd (cc)
serves_walks c g s depth posts LockCountAdd e knows some = absurd (by_depth_serves depth s s false e)
serves_walks c g s depth posts LockOwnerLoad e knows some = absurd (by_depth_serves depth s s true e)
serves_walks c g s depth posts LockCountSubtract e knows some = absurd (cc)
serves_walks c g s depth posts TryCountExchange e knows some = absurd (by_depth_serves depth s s false e)
serves_walks c g s depth posts TryOwnerLoad e knows some = absurd (by_depth_serves depth s s false e)
serves_walks c g s depth posts TryHandoffLoad e knows some = absurd (cc)
serves_walks c g s depth posts (TryHandoffExchange seen) e knows some = absurd (cc)
serves_walks c g s depth posts TryCountAdd e knows some = absurd (cc)
serves_walks c g s depth posts (SendWakeExchange t) e knows some = absurd (by_depth_serves depth s s false e)
serves_walks c g s depth posts (SendCountAdd t) e knows some = absurd (by_depth_serves depth s s false e)
serves_walks c g s depth posts (SendPushRecheck t seen) e knows some = absurd (cc)
serves_walks c g s depth posts (SendWakeStore t) e knows some = absurd (cc)
serves_walks c g s depth posts (PushLoad pusher) e knows some = absurd (pusher_serves depth s pusher e)
serves_walks c g s depth posts (LinkStore pusher seen) e knows some = absurd (pusher_serves depth s pusher e)
serves_walks c g s depth posts (PushExchange pusher seen) e knows some = absurd (pusher_serves depth s pusher e)
serves_walks c g s depth posts (PushedHandoffLoad pusher) e knows some = absurd (pusher_serves depth s pusher e)
serves_walks c g s depth posts (PushedHandoffExchange pusher seen) e knows some = absurd (cc)
serves_walks c g s depth posts (ReleaseOwnerStore releaser) e knows some = absurd (cc)
serves_walks c g s depth posts (ReleaseCountSubtract releaser) e knows some = absurd (cc)
serves_walks c g s depth posts (ReleaseHandoffStore releaser) e knows some = absurd (some knows.0)
serves_walks c g s depth posts (ReleasePushRecheck releaser) e knows some = absurd (cc)
serves_walks c g s depth posts (ReleaseHandoffExchange releaser) e knows some = absurd (cc)
serves_walks c g s depth posts (WaitWakeStore released) e knows some = absurd (cc)
serves_walks c g s depth posts (TakeClearHead carrier) e knows some = absurd (some knows.0)
serves_walks c g s depth posts (TakeLinkLoad carrier next) e knows some = knows.1
serves_walks c g s depth posts (GrantWakeStore carrier oldest) e knows some = absurd (some knows.0)
serves_walks c g s depth posts (EnterOwnerStore entrant how) e knows some = absurd (some (enters_walked c g s entrant how e knows))
serves_walks c g s depth posts (ReceiveWakeLoad sleeper) e knows some = absurd (cc)
serves_walks c g s depth posts (ReceiveWakeStore stamp) e knows some = absurd (cc)

-- while records are still to be collected, a seat serves
served : (place : Responsibility) (walk : ℕ) (popped : List Record) → CarriedFits place walk popped → walk ≢ 0 → (s : ℕ) × (place ≡ serving s)
served (serving s) walk popped carried some = (s, refl)
served posted walk popped carried some = absurd (some carried.0)
served _ walk popped carried some = absurd (some carried)

-- if no records are still to be collected, no seat collects
walks_some : (c : Core) (g : Ghost) (s posts : ℕ) (p : Point) → KnowsAt c g s posts p → g.walk ≡ 0 → unwalked_at p ≡ 0
walks_some c g s posts (TakeLinkLoad carrier next) knows none = absurd (omega (arith, none, knows.0))
walks_some c g s posts _ knows none = refl

unwalked_served : (c : Core) (g : Ghost) (s : ℕ) → Fits c g → g.walk ≢ 0 → g.place ≡ serving s → unwalked c.seats ≡ g.pushed_at (g.popped + g.walk)
unwalked_served c g s fits some place =
    let here = fits.each s in
    let own : held_by g.place s ≡ serving s = rw (place, eq-eqb s s refl) refl in
    let is = seat_of_stamp c g (g.popped + g.walk) fits (omega (arith, some)) (omega (arith, fits.words.parts)) in
    unwalked_by c.seats s (g.pushed_at (g.popped + g.walk)) (λ e. absurd (omega (arith, is.above, e)))
    (serves_walks c g s (seat c.seats s).depth (seat c.seats s).posts (seat c.seats s).point (here.claims ∙ own) here.knows some)
    (λ t other. serves_not (seat c.seats t).depth t (seat c.seats t).point (λ e. let f = sym (held_by-other g.place s t (rw place refl) other) ∙ sym (fits.each t).claims ∙ e in nobody_serves t f))

pub unwalked_read : (c : Core) (g : Ghost) → Fits c g → unwalked c.seats ≡ newest g.popped (g.popped + g.walk) g.pushed_at
unwalked_read c g fits =
    elim (cases_eq g.walk 0) [
      | inl none ↦ rw (eq-eqb g.popped (g.popped + g.walk) (omega (arith, none)))
          (unwalked_idle c.seats (λ s. walks_some c g s (seat c.seats s).posts (seat c.seats s).point (fits.each s).knows none))
      | inr some ↦ let carrier = served g.place g.walk c.popped fits.words.carried some in
          rw (ne_eqb g.popped (g.popped + g.walk) (λ e. some (omega (arith, e)))) (unwalked_served c g carrier.0 fits some carrier.1)
    ]
