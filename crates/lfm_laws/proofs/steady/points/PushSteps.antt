-- The loads of a pusher: of the push word, and after its push, of the handoff word.
use Rattle.std.proofs.Common.{◌≡◌, ◌≢◌, ℕ, true, false, refl, ◌∙◌, arith, inl, inr}
use Rattle.std.proofs.lemmas.Bool.{cases_eq, eq-eqb, ne_eqb}
use Rattle.lfm_protocol.specs.declared.points.Point.TheVariants.{Rest, Asleep, PushLoad, LinkStore, PushedHandoffLoad, PushedHandoffExchange, SendPushRecheck}
use Rattle.lfm_protocol.specs.declared.points.Pusher.{Pusher}
use Rattle.lfm_protocol.specs.declared.points.Sleeper.TheVariants as Sleeper
use Rattle.lfm_protocol.specs.declared.seats.SeatState.{SeatState}
use Rattle.lfm_words.specs.declared.handoffs.Handoff.{Handoff}
use Rattle.lfm_words.specs.declared.wakes.Wake.{Wake}
use Rattle.lfm_protocol.specs.Core.{Core}
use Rattle.lfm_laws.specs.steady.Ghost.{posted, Ghost}
use Rattle.lfm_laws.specs.steady.EventOutcome.{Kept}
use Rattle.lfm_protocol.specs.Seats.{seat, wake, IsSeat}
use Rattle.lfm_laws.specs.steady.Steady.{IsOld, HasQueue, SeatFits, Fits}
use Rattle.lfm_laws.specs.steady.Views.{grant_at, is_queued}
use Rattle.lfm_laws.proofs.steady.queue.Pushers.{fits_at, sees_itself, no_depth, not_posted, stands_old, head_has_queue, none_queued}
use Rattle.lfm_laws.proofs.steady.handoff.Handoffs.{posted_of}
use Rattle.lfm_laws.proofs.steady.frames.Quiet.{wake_by_same, moves_quietly}

-- The load of the push word

-- a pusher keeps what it knows, and now also knows the push word
own_push_load : (c : Core) (g : Ghost) (s : ℕ) (x : SeatState) (w : Wake) (pusher : Pusher)
    → SeatFits c g s (record x { point = PushLoad pusher }) w → SeatFits c g s (record x { point = LinkStore pusher c.push }) w
own_push_load c g s x w pusher fits =
    record {
      claims = fits.claims;
      woken = fits.woken ∙ wake_by_same (grant_at g.place s) g.place (g.standing s) (g.standing s) s (PushLoad pusher) (LinkStore pusher c.push) refl;
      granted = fits.granted;
      entered = fits.entered;
      listed = fits.listed;
      stands = fits.stands;
      depth = fits.depth;
      knows = (fits.knows, sees_itself c.push);
      number = fits.number;
      takes = fits.takes;
      posts = fits.posts;
      pushes = fits.pushes;
      watches = fits.watches;
    }

pub at_PushLoad : (c : Core) (g : Ghost) (s : ℕ) (pusher : Pusher) → IsSeat c.seats s → (seat c.seats s).point ≡ PushLoad pusher → Fits c g → Kept c g s
at_PushLoad c g s pusher is at fits =
    let x = seat c.seats s in
    let w = wake c.wakes s in
    rw (at, at) (moves_quietly c g s (record x { point = LinkStore pusher c.push }) is fits
    (record { asks_same = rw at; claims_same = rw at; posts_same = refl })
    (own_push_load c g s x w pusher (fits_at c g s x w (PushLoad pusher) at (fits.each s))))

-- The load of the handoff word

-- nothing is posted: a locker falls asleep
own_sleeps : (c : Core) (g : Ghost) (s : ℕ) (x : SeatState) (w : Wake) → g.place ≢ posted
    → SeatFits c g s (record x { point = PushedHandoffLoad Pusher.Locker }) w → SeatFits c g s (record x { point = Asleep Sleeper.Locker }) w
own_sleeps c g s x w away fits =
    record {
      claims = fits.claims;
      woken = fits.woken ∙ wake_by_same (grant_at g.place s) g.place (g.standing s) (g.standing s) s (PushedHandoffLoad Pusher.Locker) (Asleep Sleeper.Locker) refl;
      granted = fits.granted;
      entered = fits.entered;
      listed = fits.listed;
      stands = fits.stands;
      depth = fits.depth;
      knows = tt;
      number = fits.number;
      takes = fits.takes;
      posts = fits.posts;
      pushes = fits.pushes;
      watches = λ is watcher. absurd (away is);
    }

-- nothing is posted: a sender ends
own_ends : (c : Core) (g : Ghost) (s t : ℕ) (x : SeatState) (w : Wake) → g.place ≢ posted
    → SeatFits c g s (record x { point = PushedHandoffLoad (Pusher.Sender t) }) w → SeatFits c g s (record x { point = Rest }) w
own_ends c g s t x w away fits =
    record {
      claims = fits.claims;
      woken = fits.woken ∙ wake_by_same (grant_at g.place s) g.place (g.standing s) (g.standing s) s (PushedHandoffLoad (Pusher.Sender t)) Rest refl;
      granted = fits.granted;
      entered = fits.entered;
      listed = fits.listed;
      stands = fits.stands;
      depth = fits.depth;
      knows = tt;
      number = fits.number;
      takes = fits.takes;
      posts = fits.posts;
      pushes = fits.pushes;
      watches = λ is watcher. absurd (away is);
    }

-- the mutex is posted: a locker tries to take the post
own_finds : (c : Core) (g : Ghost) (s : ℕ) (x : SeatState) (w : Wake) → IsOld c.seats c.handoff
    → SeatFits c g s (record x { point = PushedHandoffLoad Pusher.Locker }) w
    → SeatFits c g s (record x { point = PushedHandoffExchange Pusher.Locker c.handoff }) w
own_finds c g s x w old fits =
    record {
      claims = fits.claims;
      woken = fits.woken ∙ wake_by_same (grant_at g.place s) g.place (g.standing s) (g.standing s) s (PushedHandoffLoad Pusher.Locker) (PushedHandoffExchange Pusher.Locker c.handoff) refl;
      granted = fits.granted;
      entered = fits.entered;
      listed = fits.listed;
      stands = fits.stands;
      depth = fits.depth;
      knows = (old, tt);
      number = fits.number;
      takes = fits.takes;
      posts = fits.posts;
      pushes = fits.pushes;
      watches = λ is watcher. refl;
    }

-- the mutex is posted: a sender, which then owns nothing, rechecks whether some seat is queued
own_rechecks : (c : Core) (g : Ghost) (s t : ℕ) (x : SeatState) (w : Wake) → IsOld c.seats c.handoff → g.place ≡ posted
    → SeatFits c g s (record x { point = PushedHandoffLoad (Pusher.Sender t) }) w
    → SeatFits c g s (record x { point = SendPushRecheck t c.handoff }) w
own_rechecks c g s t x w old is fits =
    record {
      claims = rw is;
      woken = fits.woken ∙ wake_by_same (grant_at g.place s) g.place (g.standing s) (g.standing s) s (PushedHandoffLoad (Pusher.Sender t)) (SendPushRecheck t c.handoff) refl;
      granted = fits.granted;
      entered = fits.entered;
      listed = fits.listed;
      stands = fits.stands;
      depth = no_depth x.depth s false (rw is at fits.claims);
      knows = old;
      number = fits.number;
      takes = fits.takes;
      posts = omega (arith, fits.posts);
      pushes = fits.pushes;
      watches = λ is watcher. (refl, fits.watches is watcher);
    }

pub at_PushedHandoffLoad : (c : Core) (g : Ghost) (s : ℕ) (pusher : Pusher) → IsSeat c.seats s → (seat c.seats s).point ≡ PushedHandoffLoad pusher → Fits c g → Kept c g s
at_PushedHandoffLoad c g s Pusher.Locker is at fits =
    let x = seat c.seats s in
    let w = wake c.wakes s in
    let here = fits_at c g s x w (PushedHandoffLoad Pusher.Locker) at (fits.each s) in
    elim (cases_eq c.handoff.seat 0) [
      | inl none ↦ rw (at, at, eq-eqb c.handoff.seat 0 none)
          (moves_quietly c g s (record x { point = Asleep Sleeper.Locker }) is fits
          (record { asks_same = rw at; claims_same = rw at; posts_same = refl })
          (own_sleeps c g s x w (not_posted c g.place fits.words.handoff none) here))
      | inr some ↦ rw (at, at, ne_eqb c.handoff.seat 0 some)
          (moves_quietly c g s (record x { point = PushedHandoffExchange Pusher.Locker c.handoff }) is fits
          (record { asks_same = rw at; claims_same = rw at; posts_same = refl })
          (own_finds c g s x w (stands_old c g fits some) here))
    ]
at_PushedHandoffLoad c g s (Pusher.Sender t) is at fits =
    let x = seat c.seats s in
    let w = wake c.wakes s in
    let here = fits_at c g s x w (PushedHandoffLoad (Pusher.Sender t)) at (fits.each s) in
    elim (cases_eq c.handoff.seat 0) [
      | inl none ↦ rw (at, at, eq-eqb c.handoff.seat 0 none)
          (moves_quietly c g s (record x { point = Rest }) is fits
          (record { asks_same = rw at; claims_same = rw at; posts_same = refl })
          (own_ends c g s t x w (not_posted c g.place fits.words.handoff none) here))
      | inr some ↦ rw (at, at, ne_eqb c.handoff.seat 0 some)
          (moves_quietly c g s (record x { point = SendPushRecheck t c.handoff }) is fits
          (record { asks_same = rw at; claims_same = rw at; posts_same = refl })
          (own_rechecks c g s t x w (stands_old c g fits some) (posted_of c.seats g.place c.handoff (omega (arith, some)) fits.words.handoff) here))
    ]

-- A sender's recheck

-- no seat is queued: the sender ends
own_rechecked : (c : Core) (g : Ghost) (s t : ℕ) (seen : Handoff) (x : SeatState) (w : Wake) → (g.place ≡ posted → is_queued (g.standing t) ≢ true)
    → SeatFits c g s (record x { point = SendPushRecheck t seen }) w → SeatFits c g s (record x { point = Rest }) w
own_rechecked c g s t seen x w none fits =
    record {
      claims = rw fits.depth fits.claims;
      woken = fits.woken ∙ wake_by_same (grant_at g.place s) g.place (g.standing s) (g.standing s) s (SendPushRecheck t seen) Rest refl;
      granted = fits.granted;
      entered = fits.entered;
      listed = fits.listed;
      stands = fits.stands;
      depth = omega (arith, fits.depth);
      knows = tt;
      number = fits.number;
      takes = fits.takes;
      posts = rw fits.depth fits.posts;
      pushes = fits.pushes;
      watches = λ is watcher. absurd (none is (fits.watches is watcher).1);
    }

-- some seat is queued: the sender tries to take the handoff
own_tries : (c : Core) (g : Ghost) (s t : ℕ) (seen : Handoff) (x : SeatState) (w : Wake) → HasQueue g
    → SeatFits c g s (record x { point = SendPushRecheck t seen }) w
    → SeatFits c g s (record x { point = PushedHandoffExchange (Pusher.Sender t) seen }) w
own_tries c g s t seen x w some fits =
    record {
      claims = fits.claims;
      woken = fits.woken ∙ wake_by_same (grant_at g.place s) g.place (g.standing s) (g.standing s) s (SendPushRecheck t seen) (PushedHandoffExchange (Pusher.Sender t) seen) refl;
      granted = fits.granted;
      entered = fits.entered;
      listed = fits.listed;
      stands = fits.stands;
      depth = fits.depth;
      knows = (fits.knows, λ stands above. some);
      number = fits.number;
      takes = fits.takes;
      posts = fits.posts;
      pushes = fits.pushes;
      watches = λ is watcher. (fits.watches is watcher).0;
    }

pub at_SendPushRecheck : (c : Core) (g : Ghost) (s t : ℕ) (seen : Handoff) → IsSeat c.seats s → (seat c.seats s).point ≡ SendPushRecheck t seen → Fits c g → Kept c g s
at_SendPushRecheck c g s t seen is at fits =
    let x = seat c.seats s in
    let w = wake c.wakes s in
    let here = fits_at c g s x w (SendPushRecheck t seen) at (fits.each s) in
    elim (cases_eq c.push.next 0) [
      | inl none ↦ rw (at, at, eq-eqb c.push.next 0 none)
          (moves_quietly c g s (record x { point = Rest }) is fits
          (record { asks_same = rw at; claims_same = rw at; posts_same = refl })
          (own_rechecked c g s t seen x w (none_queued c g t fits none) here))
      | inr some ↦ rw (at, at, ne_eqb c.push.next 0 some)
          (moves_quietly c g s (record x { point = PushedHandoffExchange (Pusher.Sender t) seen }) is fits
          (record { asks_same = rw at; claims_same = rw at; posts_same = refl })
          (own_tries c g s t seen x w (head_has_queue c g fits some) here))
    ]
