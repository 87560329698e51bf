-- The push exchange: if the push word is the expected one, it queues the seat; otherwise the pusher goes back to its link store
-- with the word that it found.
use Rattle.std.proofs.Common.{◌≡◌, ℕ, not, ◌+◌, ◌≤◌, ◌<◌, ◌&&◌, Some, [], ◌∷◌, length, refl, sym, ap, ◌∙◌, arith, inl, inr, nat_eq}
use Rattle.std.proofs.lemmas.Bool.{cases_eq, cases_Bool, eq-eqb, ne_eqb}
use Rattle.lfm_model.specs.Abstract as Abstract
use Rattle.lfm_model.specs.AbstractRuns.{queue}
use Rattle.lfm_protocol.specs.declared.points.Point.TheVariants.{LinkStore, PushExchange, PushedHandoffLoad}
use Rattle.lfm_protocol.specs.declared.points.Pusher.{Pusher}
use Rattle.lfm_protocol.specs.declared.seats.SeatState.{SeatState}
use Rattle.lfm_words.specs.declared.links.Link.{Link}
use Rattle.lfm_words.specs.declared.wakes.Wake.{Wake}
use Rattle.lfm_protocol.specs.After.{same_link}
use Rattle.lfm_protocol.specs.Core.{Core, put}
use Rattle.lfm_laws.specs.steady.Ghost.{Standing, asks, queued, Ghost}
use Rattle.lfm_laws.specs.steady.Numbered.{changed}
use Rattle.lfm_laws.specs.steady.EventOutcome.{abstract, GoesBy, EventOutcome, Kept}
use Rattle.lfm_protocol.specs.Points.{pushed_seat}
use Rattle.lfm_protocol.specs.Seats.{seat, link, wake, IsSeat}
use Rattle.lfm_laws.specs.steady.Steady.{SeatFits, Fits, asking_unit}
use Rattle.lfm_laws.specs.steady.Views.{asks_for, claims_for, grant_at, is_asking}
use Rattle.lfm_laws.proofs.steady.frames.Abstracts.{queue_pushes}
use Rattle.lfm_laws.proofs.steady.frames.Entries.{seat-with_same, seat-with_other, length-with_entry}
use Rattle.lfm_laws.proofs.steady.frames.Frames.{SeatFits_seen, sees_moved, sizes_after}
use Rattle.lfm_laws.proofs.steady.frames.Histories.{history_pushes}
use Rattle.lfm_laws.proofs.steady.queue.Linking.{pushed_asks}
use Rattle.lfm_laws.proofs.steady.queue.Pushers.{fits_at, sees_itself, same_link_true}
use Rattle.lfm_laws.proofs.steady.queue.PushedSeats.{pushed_fits, own_pushes, own_sends}
use Rattle.lfm_laws.proofs.steady.queue.Pushing.{with_pushed, exchanged, words_pushed, stamp_pushed, sums_pushed, sees_push, agents_pushed}
use Rattle.lfm_laws.proofs.steady.frames.Sums.{sum_member}
use Rattle.lfm_laws.proofs.steady.frames.Seated.{seat_of_standing}
use Rattle.lfm_laws.proofs.steady.frames.Quiet.{wake_by_same, moves_quietly}

-- what seat s, which goes on with state y, needs to push seat u
pub record Pushes (c : Core) (g : Ghost) (s u : ℕ) (seen : Link) (y : SeatState) : Type 0 where
  pub found : c.push ≡ seen
  pub asked : g.standing u ≡ asks s
  pub linked : link c.links u ≡ record { stamp = seen.stamp + 1; next = seen.next }
  pub errand : asks_for (seat c.seats s) s ≡ u
  pub claims : claims_for y ≡ claims_for (seat c.seats s)
  pub posts : y.posts ≡ (seat c.seats s).posts
  pub own : SeatFits (exchanged c seen u) (with_pushed g u) s y (wake c.wakes s)

each_pushed : (c : Core) (g : Ghost) (s u : ℕ) (seen : Link) (y : SeatState) → IsSeat c.seats s → Fits c g → Pushes c g s u seen y
    → (t : ℕ) → SeatFits (put (exchanged c seen u) s y) (with_pushed g u) t (seat (put (exchanged c seen u) s y).seats t) (wake c.wakes t)
each_pushed c g s u seen y is fits step t =
    let e = exchanged c seen u in
    let h = with_pushed g u in
    let more : (seat c.seats s).posts ≤ y.posts = omega (arith, step.posts) in
    let fewer : y.posts ≤ (seat c.seats s).posts = omega (arith, step.posts) in
    let most : g.popped ≤ g.pushed = omega (arith, fits.words.parts) in
    elim (cases_eq t s) [
      | inl same ↦ rw (same, seat-with_same c.seats s y is) (SeatFits_seen e (put e s y) h h s y (wake c.wakes s) fewer (sees_moved e h s y c.count c.owner c.wakes s y is more) step.own)
      | inr other ↦ rw (seat-with_other c.seats s t y other) (elim (cases_eq t u) [
        | inl same ↦ rw same (pushed_fits c g s u seen y (seat c.seats u) (wake c.wakes u) (λ f. other (same ∙ f)) most step.asked (fits.each u))
        | inr differ ↦ SeatFits_seen c (put e s y) g h t (seat c.seats t) (wake c.wakes t) (omega arith) (sees_push c g s u t seen y (seat c.seats t) is more step.found fits.words step.asked other differ) (fits.each t)
      ])
    ]

pub pushes : (c : Core) (g : Ghost) (s u : ℕ) (seen : Link) (y : SeatState) → IsSeat c.seats s → Fits c g → Pushes c g s u seen y
    → Fits (put (exchanged c seen u) s y) (with_pushed g u)
pushes c g s u seen y is fits step =
    let there = seat_of_standing c g u fits (λ e. let f = sym step.asked ∙ e in absurd (cc)) in
    let unit : asking_unit (g.standing u) ≡ 1 = rw step.asked in
    let member = sum_member (length c.seats) u (λ t. asking_unit (g.standing t)) there.above there.within in
    let some : 0 < g.asking = omega (arith, fits.sums.asking, unit, member) in
    record {
      words = words_pushed c g s u seen y step.found some fits.words;
      stamps = λ stamp above within. stamp_pushed c g s u seen y stamp step.found fits step.asked step.linked above within;
      each = each_pushed c g s u seen y is fits step;
      agents = agents_pushed c g s u y is step.errand step.claims fits.agents;
      sums = rw (length-with_entry c.seats s y) (sums_pushed (length c.seats) s u g there.above there.within step.asked fits.sums);
      sizes = sizes_after c _ s y refl refl refl fits.sizes;
    }

-- the abstract mutex queues the seat
asking_on : (f : ℕ → Standing) (s u n t : ℕ) → f u ≡ asks s → is_asking (changed f u (queued n) t) ≡ (is_asking (f t) && not (nat_eq t u))
asking_on f s u n t asked =
    elim (cases_eq t u) [
      | inl e ↦ rw (eq-eqb t u e, e, asked)
      | inr other ↦ rw (ne_eqb t u other) (elim (cases_Bool (is_asking (f t))) [
        | inl asking ↦ rw asking
        | inr away ↦ rw away
      ])
    ]

goes_pushed : (c : Core) (g : Ghost) (s u : ℕ) → Fits c g → g.standing u ≡ asks s → GoesBy (Some queue) (abstract g) (abstract (with_pushed g u))
goes_pushed c g s u fits asked = (
  Abstract.queue u (record {
    asked = rw asked;
    place = refl;
    asking = λ t. asking_on g.standing s u (g.pushed + 1) t asked;
    waiting = queue_pushes g (with_pushed g u) u (omega (arith, fits.words.parts)) refl refl refl;
  }),
  refl,
)

push_kept : (c : Core) (g : Ghost) (s u : ℕ) (seen : Link) (y : SeatState) → IsSeat c.seats s → Fits c g → Pushes c g s u seen y
    → EventOutcome g (put (exchanged c seen u) s y) (Some queue) (record { seat = u; stamp = seen.stamp + 1 } ∷ []) [] []
push_kept c g s u seen y is fits step =
    let words = fits.words in
    let stamp : seen.stamp ≡ g.pushed = sym (ap (λ l. l.stamp) step.found) ∙ words.stamp in
    record {
      to = with_pushed g u;
      fits = pushes c g s u seen y is fits step;
      goes = goes_pushed c g s u fits step.asked;
      history = rw stamp (history_pushes g (with_pushed g u) u refl refl refl refl (omega (arith, words.parts)) (omega (arith, words.answers, words.parts)));
    }

-- the exchange failed: the word that it found is now the seen one
own_goes_back : (c : Core) (g : Ghost) (s : ℕ) (x : SeatState) (w : Wake) (pusher : Pusher) (seen : Link)
    → SeatFits c g s (record x { point = PushExchange pusher seen }) w → SeatFits c g s (record x { point = LinkStore pusher c.push }) w
own_goes_back c g s x w pusher seen fits =
    record {
      claims = fits.claims;
      woken = fits.woken ∙ wake_by_same (grant_at g.place s) g.place (g.standing s) (g.standing s) s (PushExchange pusher seen) (LinkStore pusher c.push) refl;
      granted = fits.granted;
      entered = fits.entered;
      listed = fits.listed;
      stands = fits.stands;
      depth = fits.depth;
      knows = (fits.knows.0, sees_itself c.push);
      number = fits.number;
      takes = fits.takes;
      posts = fits.posts;
      pushes = fits.pushes;
      watches = fits.watches;
    }

-- the seat that a pusher pushes with an exchange that found the expected push word
own_exchange : (c : Core) (g : Ghost) (s : ℕ) (x : SeatState) (w : Wake) (pusher : Pusher) (seen : Link) → g.popped ≤ g.pushed
    → SeatFits c g s (record x { point = PushExchange pusher seen }) w
    → SeatFits (exchanged c seen (pushed_seat pusher s)) (with_pushed g (pushed_seat pusher s)) s (record x { point = PushedHandoffLoad pusher }) w
own_exchange c g s x w Pusher.Locker seen most fits = own_pushes c g s x w seen most fits
own_exchange c g s x w (Pusher.Sender t) seen most fits = own_sends c g s t x w seen fits

pub at_PushExchange : (c : Core) (g : Ghost) (s : ℕ) (pusher : Pusher) (seen : Link) → IsSeat c.seats s → (seat c.seats s).point ≡ PushExchange pusher seen → Fits c g → Kept c g s
at_PushExchange c g s pusher seen is at fits =
    let x = seat c.seats s in
    let w = wake c.wakes s in
    let here = fits_at c g s x w (PushExchange pusher seen) at (fits.each s) in
    elim (cases_Bool (same_link c.push seen)) [
      | inl same ↦ rw (at, at, same)
          (push_kept c g s (pushed_seat pusher s) seen (record x { point = PushedHandoffLoad pusher }) is fits
          (record {
            found = same_link_true c.push seen same;
            asked = pushed_asks g s pusher here.stands here.knows.0;
            linked = here.knows.2;
            errand = rw at;
            claims = rw at;
            posts = refl;
            own = own_exchange c g s x w pusher seen (omega (arith, fits.words.parts)) here;
          }))
      | inr other ↦ rw (at, at, other)
          (moves_quietly c g s (record x { point = LinkStore pusher c.push }) is fits
          (record { asks_same = rw at; claims_same = rw at; posts_same = refl })
          (own_goes_back c g s x w pusher seen here))
    ]
