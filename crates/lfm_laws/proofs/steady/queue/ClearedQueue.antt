-- A carrier clears the head of the push list: the records of that list are now still to be collected.
use Rattle.std.proofs.Common.{◌≡◌, ℕ, ◌+◌, ◌-◌, ◌≤◌, ◌<◌, [], length, refl, sym, ◌∙◌, inl, inr, arith}
use Rattle.std.proofs.lemmas.Bool.{cases_eq, eq-eqb, ne_eqb}
use Rattle.lfm_protocol.specs.declared.points.Carrier.{Carrier}
use Rattle.lfm_protocol.specs.declared.points.Point.TheVariants.{TakeClearHead, TakeLinkLoad, ReleaseHandoffStore}
use Rattle.lfm_protocol.specs.declared.points.Releaser.{Releaser}
use Rattle.lfm_protocol.specs.Core.{Core, put}
use Rattle.lfm_laws.specs.steady.Ghost.{serving, Ghost}
use Rattle.lfm_laws.specs.steady.EventOutcome.{Kept}
use Rattle.lfm_protocol.specs.Seats.{seat, wake, IsSeat}
use Rattle.lfm_laws.specs.steady.Steady.{HasQueue, cleared, StampFits, Fits}
use Rattle.lfm_laws.proofs.steady.queue.Carrying.{carried_core, walking, carries_on}
use Rattle.lfm_laws.proofs.steady.frames.Frames.{place_of_claim}
use Rattle.lfm_laws.proofs.steady.queue.Serving.{goes_own, queue_of_queued}
use Rattle.lfm_laws.proofs.steady.queue.Pushers.{head_has_queue, newest_is}
use Rattle.lfm_laws.proofs.steady.frames.Quiet.{walk_kept}

-- before the clear-head nothing is to be collected and the pop list is empty
cleared_so_far : (c : Core) (g : Ghost) → g.walk ≡ 0 → c.popped ≡ [] → cleared c g ≡ g.popped
cleared_so_far c g walked empty = let short : length c.popped ≡ 0 = rw empty refl in omega (arith, walked, short)

-- the head is then the newest record of the queue
newest_of_queue : (c : Core) (g : Ghost) → Fits c g → g.walk ≡ 0 → c.popped ≡ [] → HasQueue g → c.push.next ≡ g.pushed_at g.pushed
newest_of_queue c g fits walked empty some =
    let so_far = cleared_so_far c g walked empty in
    newest_is c g fits (λ e. absurd (omega (arith, so_far, e, some)))

-- the records of the queue were in the push list, and are now to be collected
cleared_stamps : (c : Core) (g : Ghost) → Fits c g → g.walk ≡ 0 → c.popped ≡ [] → (stamp : ℕ) → g.popped < stamp → stamp ≤ g.pushed
    → StampFits (carried_core c 0 c.popped) (walking g (g.pushed - g.popped)) stamp
cleared_stamps c g fits walked empty stamp above within =
    let so_far = cleared_so_far c g walked empty in
    let old = fits.stamps stamp above within in
    record {
      stands = old.stands;
      fresh = λ past. absurd (omega (arith, past, within, fits.words.parts));
      walked = λ upto. rw so_far at (old.fresh (omega (arith, so_far, above)));
    }

pub clears : (c : Core) (g : Ghost) (s : ℕ) (carrier : Carrier) → IsSeat c.seats s → (seat c.seats s).point ≡ TakeClearHead carrier → Fits c g → HasQueue g
    → Fits (put (carried_core c 0 c.popped) s (record (seat c.seats s) { point = TakeLinkLoad carrier c.push.next })) (walking g (g.pushed - g.popped))
clears c g s carrier is at fits some =
    let here = fits.each s in
    let claim = rw at at here.claims in
    let place = place_of_claim g.place (serving s) s (λ e. cc) claim in
    let knows = rw at at here.knows in
    let walked = knows.0 in
    let empty = knows.1 in
    let short : length c.popped ≡ 0 = rw empty refl in
    let all : g.popped + (g.pushed - g.popped) ≡ g.pushed = omega (arith, some) in
    let all_cleared : g.popped + (g.pushed - g.popped) + length c.popped ≡ g.pushed = omega (arith, some, short) in
    carries_on c g s (record (seat c.seats s) { point = TakeLinkLoad carrier c.push.next }) 0 (g.pushed - g.popped) c.popped is fits (record {
      errands = record { asks_same = rw at refl; claims_same = rw at refl; posts_same = refl };
      serves = place;
      head_or_none = inr refl;
      newest_head = rw (eq-eqb (g.popped + (g.pushed - g.popped) + length c.popped) g.pushed all_cleared) refl;
      parts = omega (arith, all_cleared);
      listed = rw empty refl;
      stamps = cleared_stamps c g fits walked empty;
      own = goes_own c g s (seat c.seats s) (wake c.wakes s) (TakeLinkLoad carrier c.push.next) 0 (g.pushed - g.popped) c.popped place (rw at refl) (rw (place, at) at here.woken) here (record {
        claims = refl;
        woken = refl;
        stands = rw at at here.stands;
        depth = rw at at here.depth;
        knows = (omega (arith, some), rw all (newest_of_queue c g fits walked empty some));
        posts = rw at at here.posts;
        pushes = rw at at here.pushes;
      });
    })

-- a releaser that finds no head will post the responsibility: the words are unchanged
finds_none : (c : Core) (g : Ghost) (s : ℕ) (releaser : Releaser) → IsSeat c.seats s → (seat c.seats s).point ≡ TakeClearHead (Carrier.Releaser releaser) → Fits c g → c.push.next ≡ 0
    → Fits (put (carried_core c 0 c.popped) s (record (seat c.seats s) { point = ReleaseHandoffStore releaser })) (walking g g.walk)
finds_none c g s releaser is at fits none =
    let here = fits.each s in
    let claim = rw at at here.claims in
    let place = place_of_claim g.place (serving s) s (λ e. cc) claim in
    let knows = rw at at here.knows in
    carries_on c g s (record (seat c.seats s) { point = ReleaseHandoffStore releaser }) 0 g.walk c.popped is fits (record {
      errands = record { asks_same = rw at refl; claims_same = rw at refl; posts_same = refl };
      serves = place;
      head_or_none = inr refl;
      newest_head = sym none ∙ fits.words.head;
      parts = fits.words.parts;
      listed = fits.words.listed;
      stamps = λ stamp above within. let old = fits.stamps stamp above within in record { stands = old.stands; fresh = old.fresh; walked = old.walked };
      own = goes_own c g s (seat c.seats s) (wake c.wakes s) (ReleaseHandoffStore releaser) 0 g.walk c.popped place (rw at refl) (rw (place, at) at here.woken) here (record {
        claims = refl;
        woken = refl;
        stands = rw at at here.stands;
        depth = rw at at here.depth;
        knows = (knows.0, knows.1);
        posts = rw at at here.posts;
        pushes = rw at at here.pushes;
      });
    })

-- By cases on the carrier

clears_as_locker : (c : Core) (g : Ghost) (s : ℕ) → IsSeat c.seats s → (seat c.seats s).point ≡ TakeClearHead Carrier.Locker → Fits c g → Kept c g s
clears_as_locker c g s is at fits =
    rw (at, at) (walk_kept g _ (g.pushed - g.popped) (clears c g s Carrier.Locker is at fits (queue_of_queued c g s fits (rw at at (fits.each s).stands))))

clears_as_reclaimer : (c : Core) (g : Ghost) (s : ℕ) (releaser : Releaser) → IsSeat c.seats s → (seat c.seats s).point ≡ TakeClearHead (Carrier.Reclaimer releaser) → Fits c g → Kept c g s
clears_as_reclaimer c g s releaser is at fits =
    let knows = rw at at (fits.each s).knows in
    rw (at, at) (walk_kept g _ (g.pushed - g.popped) (clears c g s (Carrier.Reclaimer releaser) is at fits knows.2))

clears_as_sender : (c : Core) (g : Ghost) (s : ℕ) → IsSeat c.seats s → (seat c.seats s).point ≡ TakeClearHead Carrier.Sender → Fits c g → Kept c g s
clears_as_sender c g s is at fits =
    let knows = rw at at (fits.each s).knows in
    rw (at, at) (walk_kept g _ (g.pushed - g.popped) (clears c g s Carrier.Sender is at fits knows.2))

clears_as_releaser : (c : Core) (g : Ghost) (s : ℕ) (releaser : Releaser) → IsSeat c.seats s → (seat c.seats s).point ≡ TakeClearHead (Carrier.Releaser releaser) → Fits c g → Kept c g s
clears_as_releaser c g s releaser is at fits =
    let knows = rw at at (fits.each s).knows in
    elim (cases_eq c.push.next 0) [
      | inl none ↦ rw (at, at, eq-eqb c.push.next 0 none) (walk_kept g _ g.walk (finds_none c g s releaser is at fits none))
      | inr some ↦
          rw (at, at, ne_eqb c.push.next 0 some)
          (walk_kept g _ (g.pushed - g.popped) (clears c g s (Carrier.Releaser releaser) is at fits (head_has_queue c g fits some)))
    ]

pub at_TakeClearHead : (c : Core) (g : Ghost) (s : ℕ) (carrier : Carrier) → IsSeat c.seats s → (seat c.seats s).point ≡ TakeClearHead carrier → Fits c g → Kept c g s
at_TakeClearHead c g s Carrier.Locker is at fits = clears_as_locker c g s is at fits
at_TakeClearHead c g s (Carrier.Releaser releaser) is at fits = clears_as_releaser c g s releaser is at fits
at_TakeClearHead c g s (Carrier.Reclaimer releaser) is at fits = clears_as_reclaimer c g s releaser is at fits
at_TakeClearHead c g s Carrier.Sender is at fits = clears_as_sender c g s is at fits
