-- A post: the handoff word gets the poster's next number, the place becomes posted, and some seat becomes the watcher.
use Rattle.std.proofs.Common.{◌≡◌, ◌≢◌, ℕ, ◌+◌, ◌<◌, ◌≤◌, List, [], refl, sym, ap, subst, ◌∙◌, eqb, length, ◌⊎◌, inl, inr, arith}
use Rattle.std.proofs.lemmas.Bool.{cases_eq, ne_eqb, cond-false}
use Rattle.lfm_words.specs.declared.handoffs.Handoff.{Handoff}
use Rattle.lfm_protocol.specs.declared.points.Point.{Point}
use Rattle.lfm_protocol.specs.declared.points.Point.TheVariants.{LockOwnerLoad, PushLoad, LinkStore, PushExchange}
use Rattle.lfm_protocol.specs.declared.seats.SeatState.{SeatState}
use Rattle.lfm_protocol.specs.Core.{Core, put}
use Rattle.lfm_laws.specs.steady.Ghost.{nobody, posted, serving, Standing, apart, claimed, asks, queued, Ghost}
use Rattle.lfm_protocol.specs.Seats.{seat, wake, IsSeat}
use Rattle.lfm_laws.specs.steady.Steady.{asking_unit, SeatFits, Fits, WatchesAt}
use Rattle.lfm_laws.specs.steady.Views.{asks_for, asks_for_at, claims_for, held_by}
use Rattle.lfm_laws.proofs.steady.frames.Entries.{length-with_entry}
use Rattle.lfm_laws.proofs.steady.frames.Frames.{each_after, IsSeat_after, IsOld_after, held_by-other, sizes_after}
use Rattle.lfm_laws.proofs.steady.handoff.Handoffs.{agents_with, listed_same}
use Rattle.lfm_laws.proofs.steady.frames.Sums.{sum_witness}

-- The watcher

-- a seat that has counted a seat and has yet to push it will load the handoff
watches_asking : (d : Core) (h : Ghost) (t : ℕ) (x : SeatState) (p : Point) → 0 < asks_for_at x.depth t p → WatchesAt d h t x p
watches_asking d h t x LockOwnerLoad some =
    elim (cases_eq x.depth 0) [
      | inl none ↦ none
      | inr deep ↦ let none = cond-false {A = ℕ} (eqb x.depth 0) t 0 (ne_eqb x.depth 0 deep) in absurd (omega arith)
    ]
watches_asking d h t x (PushLoad pusher) some = tt
watches_asking d h t x (LinkStore pusher seen) some = tt
watches_asking d h t x (PushExchange pusher seen) some = tt
watches_asking d h t x _ some = absurd (omega arith)

agent_of : (standing : Standing) → 0 < asking_unit standing → (agent : ℕ) × (standing ≡ asks agent)
agent_of (asks agent) some = (agent, refl)
agent_of apart some = absurd (omega arith)
agent_of (claimed agent) some = absurd (omega arith)
agent_of (queued stamp) some = absurd (omega arith)

asker_of : (c : Core) (g : Ghost) → Fits c g → (i : ℕ) → 0 < i → (agent : ℕ) × (g.standing i ≡ asks agent) → (w : ℕ) × (0 < asks_for (seat c.seats w) w)
asker_of c g fits i above (agent, stands) = let whose : asks_for (seat c.seats agent) agent ≡ i = (fits.agents i).asked agent stands in (agent, omega arith)

asker_at : (c : Core) (g : Ghost) → Fits c g → (i : ℕ) × (0 < i) × (i ≤ length c.seats) × (0 < asking_unit (g.standing i)) → (w : ℕ) × (0 < asks_for (seat c.seats w) w)
asker_at c g fits (i, above, within, some) = asker_of c g fits i above (agent_of (g.standing i) some)

-- if some seat asks, some seat has yet to push it
pub asker : (c : Core) (g : Ghost) → Fits c g → 0 < g.asking → (w : ℕ) × (0 < asks_for (seat c.seats w) w)
asker c g fits some = asker_at c g fits (sum_witness (length c.seats) (λ s. asking_unit (g.standing s)) (omega (arith, fits.sums.asking)))

-- The post

-- no seat has read a number that has not been posted yet
not_before : (seats : List SeatState) (s post : ℕ) (n : Handoff) → (seat seats s).posts < post → n.post ≤ (seat seats n.seat).posts → record { seat = s; post = post } ≡ n → ⊥
not_before seats s post n next older same =
    let whose : s ≡ n.seat = ap (λ k. k.seat) same in
    let which : post ≡ n.post = ap (λ k. k.post) same in
    let posts : n.post ≤ (seat seats s).posts = subst (λ (t : ℕ). n.post ≤ (seat seats t).posts) (sym whose) older in
    omega arith

-- what the step must show: the new state y of seat s fits, and the watcher is s itself or a seat that has yet to push one
pub record Posts (c : Core) (g : Ghost) (s : ℕ) (y : SeatState) (watcher : ℕ) : Type 0 where
  pub asks_same : asks_for y s ≡ asks_for (seat c.seats s) s
  pub claims_same : claims_for y ≡ claims_for (seat c.seats s)
  pub next : y.posts ≡ (seat c.seats s).posts + 1
  pub before : g.place ≡ serving s
  pub walked : g.walk ≡ 0
  pub empty : c.popped ≡ []
  pub watched : (watcher ≡ s) ⊎ (0 < asks_for (seat c.seats watcher) watcher)
  pub own : SeatFits (put (record c { handoff = record { seat = s; post = y.posts } }) s y) (record g { place = posted; watcher = watcher }) s y (wake c.wakes s)

pub posts_handoff : (c : Core) (g : Ghost) (s : ℕ) (y : SeatState) (watcher : ℕ) → IsSeat c.seats s → Fits c g → Posts c g s y watcher
    → Fits (put (record c { handoff = record { seat = s; post = y.posts } }) s y) (record g { place = posted; watcher = watcher })
posts_handoff c g s y watcher is fits step =
    let words = fits.words in
    let before = step.before in
    let handoff : Handoff = record { seat = s; post = y.posts } in
    let e : Core = record c { handoff = handoff } in
    let h : Ghost = record g { place = posted; watcher = watcher } in
    let next = step.next in
    let size = length-with_entry c.seats s y in
    let none_held : (t : ℕ) → t ≢ s → held_by g.place t ≡ nobody = λ t other. rw before (held_by-other (serving s) s t refl other) in
    record {
      words = record {
        owner = rw before at words.owner;
        handoff = IsSeat_after c s s y is;
        stamp = words.stamp;
        head = words.head;
        parts = words.parts;
        count = rw before at words.count;
        work = rw before at words.work;
        carried = (step.walked, step.empty);
        last = tt;
        answers = rw before at words.answers;
        listed = words.listed;
      };
      stamps = λ stamp above within. (let f = fits.stamps stamp above within in record { stands = f.stands; fresh = f.fresh; walked = f.walked });
      each = each_after c e g h s y is refl fits (omega (arith, next)) (λ t other. refl) (λ t other. record {
        held = sym (none_held t other);
        grant = rw before refl;
        entered = rw before refl;
        standing = refl;
        listed = λ stamp stands q. listed_same g h t stamp refl refl refl q;
        errand = λ u stands. stands;
        errand_link = λ u stands. refl;
        claim = λ u stands. stands;
        seats = λ u is. IsSeat_after c s u y is;
        old = λ n old. IsOld_after c s y n is (omega (arith, next)) old;
        number = λ same above. absurd (other (sym same));
        head = λ n older stays same above. absurd (not_before c.seats s y.posts n (omega (arith, next)) older same);
        seen = λ l seen. seen;
        carrier = λ serves. (let none : nobody ≡ serving t = sym (none_held t other) ∙ serves in cc);
        budget = refl;
        pushes = refl;
        watches = λ watches at who. elim step.watched [
          | inl own ↦ absurd (other (sym who ∙ own))
          | inr asking ↦ watches_asking (put e s y) h t (seat c.seats t) (seat c.seats t).point (subst (λ (w : ℕ). 0 < asks_for (seat c.seats w) w) who asking)
        ];
      }) step.own;
      agents = λ t. agents_with c.seats (g.standing t) s t y is step.asks_same step.claims_same (fits.agents t);
      sums = rw size (record { asking = fits.sums.asking; queued = fits.sums.queued; pushed = fits.sums.pushed });
      sizes = sizes_after c _ s y refl refl refl fits.sizes;
    }
