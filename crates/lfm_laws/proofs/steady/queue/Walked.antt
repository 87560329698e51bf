-- The next point of a carrier that has collected a record: it loads the link of the next one, or serves the first record of the
-- queue.
use Rattle.std.proofs.Common.{◌≡◌, ◌≢◌, ℕ, ◌+◌, ◌-◌, ◌≤◌, ◌∷◌, refl, sym, ap, ◌∙◌, inl, inr, arith}
use Rattle.std.proofs.lemmas.Bool.{cases_eq, eq-eqb, ne_eqb}
use Rattle.lfm_protocol.specs.declared.points.Carrier.{Carrier}
use Rattle.lfm_protocol.specs.declared.points.Entrant.TheVariants as Entrant
use Rattle.lfm_protocol.specs.declared.points.Point.TheVariants.{TakeLinkLoad, GrantWakeStore, EnterOwnerStore}
use Rattle.lfm_protocol.specs.declared.points.Releaser.{Releaser}
use Rattle.lfm_model.specs.declared.answers.How.TheVariants.{Queued}
use Rattle.lfm_protocol.specs.Core.{Core, put}
use Rattle.lfm_laws.specs.steady.Ghost.{Ghost}
use Rattle.lfm_laws.specs.steady.EventOutcome.{Kept}
use Rattle.lfm_protocol.specs.Seats.{seat, link, IsSeat}
use Rattle.lfm_laws.specs.steady.Steady.{GivesAway, Fits}
use Rattle.lfm_laws.specs.steady.Views.{due_posts_of_carrier, due_posts_of_granter}
use Rattle.lfm_laws.proofs.steady.queue.Carrying.{walking}
use Rattle.lfm_laws.proofs.steady.frames.Seated.{seat_of_stamp}
use Rattle.lfm_laws.proofs.steady.queue.Walking.{Finds, finds, walked_record, walked_on, walks}
use Rattle.lfm_laws.proofs.steady.frames.Quiet.{walk_kept}

-- at a grant at most as many posts are due as while the carrier collects
granter_posts : (carrier : Carrier) → due_posts_of_granter carrier ≤ due_posts_of_carrier carrier
granter_posts Carrier.Locker = omega arith
granter_posts (Carrier.Releaser releaser) = omega arith
granter_posts (Carrier.Reclaimer releaser) = omega arith
granter_posts Carrier.Sender = omega arith

-- the last record of the cleared list has no next one
ends_there : (c : Core) (g : Ghost) (t : ℕ) → Finds c g t → g.walk ≡ 1 → (link c.links t).next ≡ 0
ends_there c g t found last =
    ap (λ l. l.next) found.link_is ∙ rw (eq-eqb (g.popped + g.walk) (g.popped + 1) (omega (arith, last))) refl

-- any other record leads to the record pushed before it
leads_on : (c : Core) (g : Ghost) (t : ℕ) → Finds c g t → g.walk ≢ 1 → (link c.links t).next ≡ g.pushed_at (g.popped + (g.walk - 1))
leads_on c g t found more =
    let some = found.some in
    let one_less : g.popped + g.walk - 1 ≡ g.popped + (g.walk - 1) = omega (arith, some) in
    ap (λ l. l.next) found.link_is ∙ rw (ne_eqb (g.popped + g.walk) (g.popped + 1) (λ e. more (omega (arith, e))), one_less) refl

leads_to_some : (c : Core) (g : Ghost) (t : ℕ) → Fits c g → Finds c g t → g.walk ≢ 1 → (link c.links t).next ≢ 0
leads_to_some c g t fits found more none =
    let is = seat_of_stamp c g (g.popped + (g.walk - 1)) fits (omega (arith, more, found.some)) (omega (arith, fits.words.parts)) in
    let here : g.pushed_at (g.popped + (g.walk - 1)) ≡ 0 = sym (leads_on c g t found more) ∙ none in
    absurd (omega (arith, here, is.above))

walks_on : (c : Core) (g : Ghost) (s t : ℕ) (carrier : Carrier) → IsSeat c.seats s → (seat c.seats s).point ≡ TakeLinkLoad carrier t → Fits c g → Finds c g t → g.walk ≢ 1
    → Fits (put (walked_on c t) s (record (seat c.seats s) { point = TakeLinkLoad carrier (link c.links t).next })) (walking g (g.walk - 1))
walks_on c g s t carrier is at fits found more =
    let here = fits.each s in
    let some = found.some in
    walks c g s t carrier (TakeLinkLoad carrier (link c.links t).next) is at fits found (record { asks_same = rw at refl; claims_same = rw at refl; posts_same = refl }) (record {
      claims = refl;
      woken = refl;
      stands = rw at at here.stands;
      depth = rw at at here.depth;
      knows = (omega (arith, some, more), leads_on c g t found more);
      posts = rw at at here.posts;
      pushes = rw at at here.pushes;
    })

-- the carrier goes on to grant the oldest record
gives : (c : Core) (g : Ghost) (s t : ℕ) (carrier : Carrier) → IsSeat c.seats s → (seat c.seats s).point ≡ TakeLinkLoad carrier t → Fits c g → Finds c g t → g.walk ≡ 1
    → GivesAway s (walked_record c t) carrier
    → Fits (put (walked_on c t) s (record (seat c.seats s) { point = GrantWakeStore carrier (walked_record c t) })) (walking g (g.walk - 1))
gives c g s t carrier is at fits found last away =
    let here = fits.each s in
    let posts = rw at at here.posts in
    walks c g s t carrier (GrantWakeStore carrier (walked_record c t)) is at fits found (record { asks_same = rw at refl; claims_same = rw at refl; posts_same = refl }) (record {
      claims = refl;
      woken = refl;
      stands = rw at at here.stands;
      depth = rw at at here.depth;
      knows = (omega (arith, last), (c.popped, refl), away);
      posts = omega (arith, posts, granter_posts carrier);
      pushes = rw at at here.pushes;
    })

-- a locker has taken its own record
takes_own : (c : Core) (g : Ghost) (s t : ℕ) → IsSeat c.seats s → (seat c.seats s).point ≡ TakeLinkLoad Carrier.Locker t → Fits c g → Finds c g t → g.walk ≡ 1 → t ≡ s
    → Fits (put (walked_on c t) s (record (seat c.seats s) { point = EnterOwnerStore Entrant.Locker (Queued (link c.links t).stamp) })) (walking g (g.walk - 1))
takes_own c g s t is at fits found last own =
    let here = fits.each s in
    walks c g s t Carrier.Locker (EnterOwnerStore Entrant.Locker (Queued (link c.links t).stamp)) is at fits found (record { asks_same = rw at refl; claims_same = rw at refl; posts_same = refl }) (record {
      claims = refl;
      woken = refl;
      stands = rw at at here.stands;
      depth = rw at at here.depth;
      knows = (omega (arith, last), (c.popped, λ i. record { seat = own i; stamp = (link c.links t).stamp } ∷ c.popped));
      posts = rw at at here.posts;
      pushes = rw at at here.pushes;
    })

-- By cases on the link, and at the end of the list on the carrier

leads : (c : Core) (g : Ghost) (s t : ℕ) (carrier : Carrier) → IsSeat c.seats s → (seat c.seats s).point ≡ TakeLinkLoad carrier t → Fits c g → Finds c g t → g.walk ≢ 1 → Kept c g s
leads c g s t carrier is at fits found more =
    rw (at, at, ne_eqb (link c.links t).next 0 (leads_to_some c g t fits found more)) (walk_kept g _ (g.walk - 1) (walks_on c g s t carrier is at fits found more))

ends_as_locker : (c : Core) (g : Ghost) (s t : ℕ) → IsSeat c.seats s → (seat c.seats s).point ≡ TakeLinkLoad Carrier.Locker t → Fits c g → Finds c g t → g.walk ≡ 1 → Kept c g s
ends_as_locker c g s t is at fits found last =
    let ends = eq-eqb (link c.links t).next 0 (ends_there c g t found last) in
    elim (cases_eq t s) [
      | inl own ↦ rw (at, at, ends, eq-eqb t s own) (walk_kept g _ (g.walk - 1) (takes_own c g s t is at fits found last own))
      | inr other ↦ rw (at, at, ends, ne_eqb t s other) (walk_kept g _ (g.walk - 1) (gives c g s t Carrier.Locker is at fits found last other))
    ]

ends_as_releaser : (c : Core) (g : Ghost) (s t : ℕ) (releaser : Releaser) → IsSeat c.seats s → (seat c.seats s).point ≡ TakeLinkLoad (Carrier.Releaser releaser) t → Fits c g → Finds c g t → g.walk ≡ 1
    → Kept c g s
ends_as_releaser c g s t releaser is at fits found last =
    rw (at, at, eq-eqb (link c.links t).next 0 (ends_there c g t found last)) (walk_kept g _ (g.walk - 1) (gives c g s t (Carrier.Releaser releaser) is at fits found last tt))

ends_as_reclaimer : (c : Core) (g : Ghost) (s t : ℕ) (releaser : Releaser) → IsSeat c.seats s → (seat c.seats s).point ≡ TakeLinkLoad (Carrier.Reclaimer releaser) t → Fits c g → Finds c g t → g.walk ≡ 1
    → Kept c g s
ends_as_reclaimer c g s t releaser is at fits found last =
    rw (at, at, eq-eqb (link c.links t).next 0 (ends_there c g t found last)) (walk_kept g _ (g.walk - 1) (gives c g s t (Carrier.Reclaimer releaser) is at fits found last tt))

ends_as_sender : (c : Core) (g : Ghost) (s t : ℕ) → IsSeat c.seats s → (seat c.seats s).point ≡ TakeLinkLoad Carrier.Sender t → Fits c g → Finds c g t → g.walk ≡ 1 → Kept c g s
ends_as_sender c g s t is at fits found last =
    rw (at, at, eq-eqb (link c.links t).next 0 (ends_there c g t found last)) (walk_kept g _ (g.walk - 1) (gives c g s t Carrier.Sender is at fits found last tt))

ends : (c : Core) (g : Ghost) (s t : ℕ) (carrier : Carrier) → IsSeat c.seats s → (seat c.seats s).point ≡ TakeLinkLoad carrier t → Fits c g → Finds c g t → g.walk ≡ 1 → Kept c g s
ends c g s t Carrier.Locker is at fits found last = ends_as_locker c g s t is at fits found last
ends c g s t (Carrier.Releaser releaser) is at fits found last = ends_as_releaser c g s t releaser is at fits found last
ends c g s t (Carrier.Reclaimer releaser) is at fits found last = ends_as_reclaimer c g s t releaser is at fits found last
ends c g s t Carrier.Sender is at fits found last = ends_as_sender c g s t is at fits found last

pub at_TakeLinkLoad : (c : Core) (g : Ghost) (s : ℕ) (carrier : Carrier) (next : ℕ) → IsSeat c.seats s → (seat c.seats s).point ≡ TakeLinkLoad carrier next → Fits c g → Kept c g s
at_TakeLinkLoad c g s carrier next is at fits =
    let found = finds c g s next carrier at fits in
    elim (cases_eq g.walk 1) [
      | inl last ↦ ends c g s next carrier is at fits found last
      | inr more ↦ leads c g s next carrier is at fits found more
    ]
