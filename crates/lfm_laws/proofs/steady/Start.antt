-- The state at the start is steady: no seat holds the mutex, and every seat is apart from the queue.
use Rattle.std.proofs.Common.{◌≡◌, ℕ, zero, suc, ◌≤◌, true, length, replicate, refl, sym, ◌∙◌, arith, tests}
use Rattle.std.proofs.lemmas.List.{length-replicate}
use Rattle.lfm_protocol.specs.declared.limits.Limits.{Limits}
use Rattle.lfm_words.specs.declared.wakes.Wake.TheVariants.{Quiet}
use Rattle.lfm_laws.specs.steady.Ghost.{nobody, apart, Ghost}
use Rattle.lfm_protocol.specs.Limits.{are_in_limits, max_seats, max_budget}
use Rattle.lfm_protocol.specs.Seats.{entry, absent, no_link}
use Rattle.lfm_laws.specs.steady.Steady.{SeatFits, asking_unit, queued_unit, Fits, Steady}
use Rattle.lfm_protocol.specs.Step.{start}
use Rattle.lfm_laws.proofs.steady.frames.Sums.{sum_none}

-- entries that are all d read as d, at every number
pub same_entry : {A : Type 0} (d : A) (n s : ℕ) → entry d (replicate n d) s ≡ d
unfolding entry
same_entry d n zero = refl
same_entry d zero (suc s) = refl
same_entry d (suc n) (suc zero) = refl
same_entry d (suc n) (suc (suc s)) = same_entry d n (suc s)

-- the ghost of the start: nothing was pushed, popped or answered
abbrev pub at_start : Ghost
at_start =
    record {
      place = nobody;
      standing = λ s. apart;
      pushed_at = λ x. 0;
      pushed = 0;
      popped = 0;
      walk = 0;
      asking = 0;
      watcher = 0;
      answered = 0;
      pushes = λ s. 0;
    }

-- a seat that has done nothing fits
fits_at_start : (limits : Limits) (s : ℕ) → SeatFits (start limits) at_start s absent Quiet
fits_at_start limits s =
    record {
      claims = refl;
      woken = refl;
      granted = λ some. absurd (cc);
      entered = λ into none. absurd (cc);
      listed = λ stamp stands. absurd (cc);
      stands = refl;
      depth = omega arith;
      knows = tt;
      number = λ here above. absurd (omega arith);
      takes = omega arith;
      posts = omega arith;
      pushes = omega arith;
      watches = λ place here. absurd (cc);
    }

pub start_fits : (limits : Limits) → limits.seats ≤ max_seats → Fits (start limits) at_start
start_fits limits few =
    let seats = length-replicate limits.seats absent in
    record {
      words = record {
        owner = refl;
        handoff = refl;
        stamp = refl;
        head = refl;
        parts = omega arith;
        count = refl;
        work = (refl, refl);
        carried = refl;
        last = tt;
        answers = refl;
        listed = refl;
      };
      stamps = λ stamp above within. absurd (omega arith);
      each = λ s. rw (same_entry absent limits.seats s, same_entry Quiet limits.seats s) (fits_at_start limits s);
      agents = λ s. record { asked = λ agent asking. absurd (cc); sent = λ agent claiming. absurd (cc) };
      sums = record {
        asking = sym (sum_none (length (start limits).seats) (λ s. asking_unit apart) (λ s. refl));
        queued = let none = sum_none (length (start limits).seats) (λ s. queued_unit apart) (λ s. refl) in omega arith;
        pushed = sym (sum_none (length (start limits).seats) (λ s. 0) (λ s. refl));
      };
      sizes = record {
        links = length-replicate limits.seats no_link ∙ sym seats;
        wakes = length-replicate limits.seats Quiet ∙ sym seats;
        seats = omega (arith, seats);
      };
    }

pub start_steady : (limits : Limits) → limits.seats ≤ max_seats → Steady (start limits)
start_steady limits few = record { ghost_state = at_start; fits = start_fits limits few }

-- the limits that the test allows are those of a steady state

pub few_seats : (seats budget : ℕ) → are_in_limits seats budget ≡ true → seats ≤ max_seats
few_seats seats budget allowed = search (tests, arith, allowed)

pub small_budget : (seats budget : ℕ) → are_in_limits seats budget ≡ true → budget ≤ max_budget
small_budget seats budget allowed = search (tests, arith, allowed)
