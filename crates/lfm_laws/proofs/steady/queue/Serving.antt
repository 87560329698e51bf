-- A seat that serves: what its next point must satisfy while it clears and collects, and that some seat is queued.
use Rattle.std.proofs.Common.{◌≡◌, ℕ, true, ◌+◌, ◌≤◌, List, sym, ◌∙◌, arith}
use Rattle.std.proofs.lemmas.Bool.{false≢true}
use Rattle.lfm_protocol.specs.declared.points.Point.{Point}
use Rattle.lfm_protocol.specs.declared.seats.SeatState.{SeatState}
use Rattle.lfm_words.specs.declared.pop_lists.Record.{Record}
use Rattle.lfm_words.specs.declared.wakes.Wake.{Wake}
use Rattle.lfm_words.specs.declared.wakes.Wake.TheVariants.{Quiet}
use Rattle.lfm_protocol.specs.Core.{Core}
use Rattle.lfm_laws.specs.steady.Ghost.{serving, Ghost}
use Rattle.lfm_laws.specs.steady.Steady.{HasQueue, KnowsAt, DepthAt, StandsAt, SeatFits, Fits}
use Rattle.lfm_laws.specs.steady.Views.{claim_at, wake_at, is_queued, due_posts_at, due_pushes_at}
use Rattle.lfm_laws.proofs.steady.frames.Abstracts.{stamp_of_queued}
use Rattle.lfm_laws.proofs.steady.queue.Carrying.{carried_core, walking, serving_unposted}

-- what seat s with state x, which serves, must satisfy at its next point
pub record Goes (c : Core) (g : Ghost) (s : ℕ) (x : SeatState) (w : Wake) (p : Point) : Type 0 where
  pub claims : claim_at x.depth s p ≡ serving s
  pub woken : wake_at (serving s) (g.standing s) s p ≡ Quiet
  pub stands : StandsAt (serving s) x.depth s (g.standing s) p
  pub depth : DepthAt x.depth p
  pub knows : KnowsAt c g s x.posts p
  pub posts : x.posts + due_posts_at x.depth p ≤ x.takes
  pub pushes : g.pushes s + due_pushes_at x.depth w (g.standing s) p ≤ x.takes

-- seat s fits there
pub goes_own : (c : Core) (g : Ghost) (s : ℕ) (x : SeatState) (w : Wake) (p : Point) (head walk : ℕ) (popped : List Record)
    → g.place ≡ serving s → claim_at x.depth s x.point ≡ serving s → w ≡ Quiet → SeatFits c g s x w
    → Goes (carried_core c head popped) (walking g walk) s x w p
    → SeatFits (carried_core c head popped) (walking g walk) s (record x { point = p }) w
goes_own c g s x w p head walk popped place claim quiet fits goes =
    record {
      claims = goes.claims ∙ sym claim ∙ fits.claims;
      woken = rw place (quiet ∙ sym goes.woken);
      granted = rw place (λ e. absurd (false≢true e));
      entered = rw place (λ e. absurd (false≢true e));
      listed = λ stamp e. let q = fits.listed stamp e in record { above = q.above; within = q.within; here = q.here };
      stands = rw place goes.stands;
      depth = goes.depth;
      knows = goes.knows;
      number = fits.number;
      takes = fits.takes;
      posts = goes.posts;
      pushes = goes.pushes;
      watches = rw place (λ e. absurd (serving_unposted s e));
    }

-- if a seat's standing is queued, the queue is not empty
pub queue_of_queued : (c : Core) (g : Ghost) (s : ℕ) → Fits c g → is_queued (g.standing s) ≡ true → HasQueue g
queue_of_queued c g s fits e =
    let there = stamp_of_queued (g.standing s) e in
    let here = (fits.each s).listed there.0 there.1 in
    omega (arith, here.above, here.within)
