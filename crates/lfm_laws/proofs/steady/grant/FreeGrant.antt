-- The free grant of a send: the seat that it brings in is granted, and the queue is unchanged.
use Rattle.std.proofs.Common.{◌≡◌, ◌≢◌, ℕ, true, false, ◌≤◌, None, List, length, refl, sym, ◌∙◌, inl, inr, arith}
use Rattle.std.proofs.lemmas.Bool.{cases_eq, cases_lt, eq-eqb, ne_eqb, false≢true}
use Rattle.lfm_protocol.specs.declared.points.Point.{Point}
use Rattle.lfm_protocol.specs.declared.seats.SeatState.{SeatState}
use Rattle.lfm_words.specs.declared.wakes.Wake.{Wake}
use Rattle.lfm_words.specs.declared.wakes.Wake.TheVariants.{Quiet, Grant}
use Rattle.lfm_protocol.specs.Core.{Core, put}
use Rattle.lfm_laws.specs.steady.Ghost.{nobody, granted, posted, entering, serving, Ghost}
use Rattle.lfm_protocol.specs.Seats.{seat, wake, absent, with_entry, IsSeat}
use Rattle.lfm_laws.specs.steady.Steady.{awaits_grant, WordsFit, SumsFit, Fits}
use Rattle.lfm_laws.specs.steady.Views.{held_by, grant_at, is_entered}
use Rattle.lfm_laws.proofs.steady.frames.Entries.{entry-with_same, entry-with_other, length-with_entry, entry_past, seat_zero}
use Rattle.lfm_laws.proofs.steady.frames.Frames.{Sees, Errands, agents_after, IsSeat_after, IsOld_after, sizes_after}
use Rattle.lfm_laws.proofs.steady.grant.Granted.{awaits_waiter, granted_seat}
use Rattle.lfm_laws.proofs.steady.grant.Granting.{Rests, granter, grant_of_other}
use Rattle.lfm_laws.proofs.steady.handoff.Handing.{handed, each_after_two}

-- A seat that awaits a grant is a seat of the mutex

absent_awaits_none : (x : SeatState) → x ≡ absent → awaits_grant x.point ≡ true → ⊥
absent_awaits_none x none awaits = false≢true (rw none at awaits)

pub awaiting_seat : (c : Core) (u : ℕ) → awaits_grant (seat c.seats u).point ≡ true → IsSeat c.seats u
awaiting_seat c u awaits =
    elim (cases_lt (length c.seats) u) [
      | inl past ↦ absurd (absent_awaits_none (seat c.seats u) (entry_past absent c.seats u past) awaits)
      | inr within ↦ elim (cases_eq u 0) [
        | inl none ↦ absurd (absent_awaits_none (seat c.seats u) (rw none (seat_zero c.seats)) awaits)
        | inr some ↦ record { above = omega arith; within = omega arith }
      ]
    ]

-- The grant

-- the wake words after the free grant of seat t
abbrev pub free_wakes : Core → ℕ → List Wake
free_wakes c t = with_entry c.wakes t (Grant 0)

-- the ghost after it
abbrev pub freed_to : Ghost → ℕ → Ghost
freed_to g t = record g { place = granted t 0 }

-- the target of a send that brings it in has no other part of the responsibility
entered_waits : (g : Ghost) (s t : ℕ) → g.place ≡ entering s t 0 → t ≢ s → (held_by g.place t ≡ nobody) × (is_entered g.place t ≡ true)
entered_waits g s t place other =
    (rw (place, ne_eqb s t (λ e. other (sym e))) refl, rw (place, eq-eqb t t refl) refl)

words_freed : (c : Core) (g : Ghost) (s t : ℕ) (y : SeatState) (wakes : List Wake) → WordsFit c g → g.place ≡ entering s t 0 → WordsFit (put (handed c c.owner c.popped wakes) s y) (freed_to g t)
words_freed c g s t y wakes words place =
    record {
      owner = rw place at words.owner;
      handoff = rw place at words.handoff;
      stamp = words.stamp;
      head = words.head;
      parts = words.parts;
      count = rw place at words.count;
      work = tt;
      carried = rw place at words.carried;
      last = λ some. absurd (omega (arith, some));
      answers = rw place at words.answers;
      listed = words.listed;
    }

sees_freed : (c : Core) (g : Ghost) (s t : ℕ) (y : SeatState) (wakes : List Wake) → IsSeat c.seats s → Fits c g → (seat c.seats s).posts ≤ y.posts → g.place ≡ entering s t 0
    → (v : ℕ) → v ≢ s → v ≢ t → (x : SeatState) → Sees c (put (handed c c.owner c.popped wakes) s y) g (freed_to g t) v x
sees_freed c g s t y wakes is fits more place v other away x =
    let none : held_by g.place v ≡ nobody = rw (place, ne_eqb s v (λ e. other (sym e))) refl in
    let grant : grant_at g.place v ≡ None = rw place refl in
    let entered : is_entered g.place v ≡ false = rw (place, ne_eqb t v (λ e. away (sym e))) refl in
    record {
      held = sym none;
      grant = grant_of_other t v 0 (λ e. away (sym e)) ∙ sym grant;
      entered = sym entered;
      standing = refl;
      listed = λ stamp at was. record { above = was.above; within = was.within; here = was.here };
      errand = λ u at. at;
      errand_link = λ u at. refl;
      claim = λ u at. at;
      seats = λ u there. IsSeat_after c s u y there;
      old = λ n old. IsOld_after c s y n is more old;
      number = λ at above. refl;
      head = λ n old stays. stays;
      seen = λ l seen. seen;
      carrier = λ holds. (let clash : nobody ≡ serving v = sym none ∙ holds in absurd (cc));
      budget = refl;
      pushes = refl;
      watches = λ watch placed at. (let clash : granted t 0 ≡ posted = placed in absurd (cc));
    }

-- the state stays steady when a send of seat s has given its target t a free grant and s is at such a point
pub free_fits : (c : Core) (g : Ghost) (s t : ℕ) (p : Point) → IsSeat c.seats s → Fits c g → Errands c s (record (seat c.seats s) { point = p })
    → g.place ≡ entering s t 0 → t ≢ s → Rests g s t 0 (seat c.seats s) (wake c.wakes s) p
    → Fits (put (handed c c.owner c.popped (free_wakes c t)) s (record (seat c.seats s) { point = p })) (freed_to g t)
free_fits c g s t p is fits errands place other rests =
    let x : SeatState = seat c.seats s in
    let y : SeatState = record (seat c.seats s) { point = p } in
    let away : s ≢ t = λ e. other (sym e) in
    let parts = entered_waits g s t place other in
    let waits = (fits.each t).entered parts.1 parts.0 in
    let awaits = awaits_waiter (seat c.seats t).point waits.0 in
    let there = awaiting_seat c t awaits in
    let size : length (with_entry c.seats s y) ≡ length c.seats = length-with_entry c.seats s y in
    let none : wake (free_wakes c t) s ≡ wake c.wakes s = entry-with_other Quiet c.wakes t s (Grant 0) away in
    let gives : wake (free_wakes c t) t ≡ Grant 0 = entry-with_same Quiet c.wakes t (Grant 0) there.above (omega (arith, there.within, fits.sizes.wakes)) in
    let sums : SumsFit (length c.seats) (freed_to g t) = record { asking = fits.sums.asking; queued = fits.sums.queued; pushed = fits.sums.pushed } in
    record {
      words = words_freed c g s t y (free_wakes c t) fits.words place;
      stamps = λ stamp above within. (let was = fits.stamps stamp above within in record { stands = was.stands; fresh = was.fresh; walked = was.walked });
      each = each_after_two c (handed c c.owner c.popped (free_wakes c t)) g (freed_to g t) s t y c.count c.owner (free_wakes c t) is refl fits refl
          (λ v differs apart. entry-with_other Quiet c.wakes t v (Grant 0) apart)
          (λ v differs apart. sees_freed c g s t y (free_wakes c t) is fits (omega arith) place v differs apart (seat c.seats v))
          (rw none (granter c g (freed_to g t) s t 0 c.owner c.popped (free_wakes c t) x (wake c.wakes s) p (fits.each s) other refl refl refl (λ k was. record { above = was.above; within = was.within; here = was.here }) rests))
          (λ far. rw gives (granted_seat c g (freed_to g t) t 0 c.owner c.popped (free_wakes c t) (seat c.seats t) (wake c.wakes t) (fits.each t) parts.0 awaits refl waits.1 refl));
      agents = agents_after c g.standing s y is errands fits.agents;
      sums = rw size sums;
      sizes = sizes_after c _ s y refl refl (length-with_entry c.wakes t (Grant 0)) fits.sizes;
    }
