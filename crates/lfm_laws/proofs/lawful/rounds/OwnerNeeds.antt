-- What an owner needs: the rounds up to its release if it begins no calls but releases. Each of its steps lowers them, and a
-- push raises them by at most two: a push of another seat may make the owner's own fail.
use Rattle.std.proofs.Common.{◌≡◌, ◌≢◌, ℕ, zero, suc, Bool, ◌+◌, ◌*◌, ◌≤◌, ◌<◌, length, refl, sym, ap, subst, ◌∙◌, inl, inr, arith}
use Rattle.std.proofs.lemmas.Bool.{cases_Bool, eq-eqb, ne_eqb}
use Rattle.lfm_model.specs.declared.answers.How.{How}
use Rattle.lfm_model.specs.declared.answers.How.TheVariants.{Queued}
use Rattle.lfm_protocol.specs.declared.kinds.Word.{Word}
use Rattle.lfm_protocol.specs.declared.points.Entrant.{Entrant}
use Rattle.lfm_protocol.specs.declared.points.Point.{Point}
use Rattle.lfm_protocol.specs.declared.points.Point.TheVariants.{Rest, LockCountAdd, LockOwnerLoad, LockCountSubtract, TryCountExchange, TryOwnerLoad, SendWakeExchange, SendCountAdd, PushLoad, LinkStore, PushExchange, PushedHandoffLoad, ReleaseOwnerStore, EnterOwnerStore}
use Rattle.lfm_protocol.specs.declared.points.Pusher.{Pusher}
use Rattle.lfm_protocol.specs.declared.seats.SeatState.{SeatState}
use Rattle.lfm_words.specs.declared.links.Link.{Link}
use Rattle.lfm_words.specs.declared.wakes.Wake.{Wake}
use Rattle.lfm_words.specs.declared.wakes.Wake.TheVariants.{Waiting}
use Rattle.lfm_protocol.specs.After.{same_link, claims}
use Rattle.lfm_protocol.specs.Core.{Core}
use Rattle.lfm_protocol.specs.Points.{kind, target}
use Rattle.lfm_protocol.specs.Seats.{seat, wake, unposted, IsSeat}
use Rattle.lfm_protocol.specs.Step.{made}
use Rattle.lfm_laws.specs.laws.Events.{pushed_at_point}
use Rattle.lfm_laws.specs.laws.FairRounds.{rounds_from_rest}
use Rattle.lfm_laws.specs.steady.Ghost.{owned, Ghost}
use Rattle.lfm_laws.specs.steady.Steady.{Fits, own_unit}
use Rattle.lfm_laws.specs.steady.Views.{claim, claim_at, claim_to_enter, held_by}
use Rattle.lfm_laws.proofs.lawful.bounds.DueAtPoints.{again_unless, again_unless-le}
use Rattle.lfm_laws.proofs.lawful.bounds.LockFree.{idle_made}
use Rattle.lfm_laws.proofs.lawful.bounds.Leaving.{own_made}
use Rattle.lfm_laws.proofs.lawful.bounds.StepsFall.{same_link_self}
use Rattle.lfm_laws.proofs.lawful.rounds.Holds.{owner_place, own_part}
use Rattle.lfm_laws.proofs.lawful.touched.OneWord.{other_word}

-- What an owner needs

-- by its depth and its point. Before the push of its send this is two less than the rounds that it needs: that push adds two,
-- as each push does
abbrev pub needs_at : Link → ℕ → Point → ℕ
needs_at push depth Rest = rounds_from_rest depth
needs_at push depth LockCountAdd = depth + 5
needs_at push depth LockOwnerLoad = depth + 4
needs_at push depth LockCountSubtract = depth + 3
needs_at push depth TryCountExchange = depth + 4
needs_at push depth TryOwnerLoad = depth + 3
needs_at push depth (SendWakeExchange t) = depth + 5
needs_at push depth (SendCountAdd t) = depth + 4
needs_at push depth (PushLoad pusher) = depth + 3
needs_at push depth (LinkStore pusher seen) = depth + 2 + again_unless (same_link push seen)
needs_at push depth (PushExchange pusher seen) = depth + 1 + again_unless (same_link push seen)
needs_at push depth (PushedHandoffLoad pusher) = depth + 2
needs_at push depth (ReleaseOwnerStore releaser) = 1
needs_at push depth _ = 0

abbrev pub needs_of : Core → ℕ → ℕ
needs_of c u = needs_at c.push (seat c.seats u).depth (seat c.seats u).point

-- 0 if no seat owns
abbrev pub owner_needs : Core → ℕ
owner_needs c = needs_of c c.owner

rest-le : (depth : ℕ) → rounds_from_rest depth ≤ depth + 1
rest-le zero = omega arith
rest-le (suc nested) = omega arith

pub needs_at-le : (push : Link) (depth : ℕ) (p : Point) → needs_at push depth p ≤ depth + 5
needs_at-le push depth Rest = let most = rest-le depth in omega (arith, most)
needs_at-le push depth (LinkStore pusher seen) = let most = again_unless-le (same_link push seen) in omega (arith, most)
needs_at-le push depth (PushExchange pusher seen) = let most = again_unless-le (same_link push seen) in omega (arith, most)
needs_at-le push depth _ = omega arith

pub needs_two_more : (push after : Link) (depth : ℕ) (p : Point) → needs_at after depth p ≤ needs_at push depth p + 2
needs_two_more push after depth (LinkStore pusher seen) = let most = again_unless-le (same_link after seen) in omega (arith, most)
needs_two_more push after depth (PushExchange pusher seen) = let most = again_unless-le (same_link after seen) in omega (arith, most)
needs_two_more push after depth _ = omega arith

-- What is known while a seat owns

pub record Owns (c : Core) (g : Ghost) (u : ℕ) : Type 0 where
  pub again : Bool
  pub place : g.place ≡ owned u again
  pub claims : claim (seat c.seats u) u ≡ owned u again
  pub counted : c.count ≢ 0
  pub nothing_posted : c.handoff ≡ unposted

pub owner_owns : (c : Core) (g : Ghost) → Fits c g → 0 < c.owner → Owns c g c.owner
owner_owns c g fits some =
    let word = fits.words.owner in
    let place = owner_place g.place (subst (λ (n : ℕ). 0 < n) word some) in
    let here : g.place ≡ owned c.owner place.0 = place.1 ∙ ap (λ s. owned s place.0) (sym word) in
    let own : own_unit g.place ≡ 1 = ap own_unit here in
    record {
      again = place.0;
      place = here;
      claims = (fits.each c.owner).claims ∙ ap (λ p. held_by p c.owner) here ∙ own_part c.owner place.0;
      counted = λ none. omega (arith, none, fits.words.count, own, fits.words.parts);
      nothing_posted = rw here at fits.words.handoff;
    }

-- an entrant doesn't own yet
pub enters_unowned : (s u : ℕ) (again : Bool) (entrant : Entrant) (how : How) → claim_to_enter s entrant how ≡ owned u again → ⊥
enters_unowned s u again Entrant.Locker How.Free e = cc
enters_unowned s u again Entrant.Locker (Queued stamp) e = cc
enters_unowned s u again Entrant.Trier how e = cc
enters_unowned s u again Entrant.Receiver how e = cc

-- A step of the owner

-- it releases, or it needs a round less, or it is between two calls and makes none
pub data OwnerStep (c d : Core) (u pushes : ℕ) (p : Point) : Type 0 where
  released : d.owner ≡ 0 → needs_of c u ≡ 1 → OwnerStep c d u pushes p
  nears : d.owner ≡ c.owner → needs_of d u + 1 ≤ needs_of c u + 2 * pushes → OwnerStep c d u pushes p
  idles : d ≡ c → p ≡ Rest → OwnerStep c d u pushes p

claims_left : (push : Link) (x : SeatState) (t : ℕ) (w : Wake) → needs_at push (claims x t w).seat.depth (claims x t w).seat.point + 1 ≤ x.depth + 5
claims_left push x t Waiting = omega arith
claims_left push x t _ = let most = rest-le x.depth in omega (arith, most)

pub owner_step : (c : Core) (u : ℕ) (again : Bool) (p : Point) → (seat c.seats u).point ≡ p → IsSeat c.seats u → c.owner ≡ u → c.count ≢ 0 → c.handoff ≡ unposted
    → claim_at (seat c.seats u).depth u p ≡ owned u again → OwnerStep c (made c u).core u (length (pushed_at_point c u p)) p
owner_step c u again Rest at is own counted none holds = idles (idle_made c u Rest at refl) refl
owner_step c u again LockCountAdd at is own counted none holds =
    let view : seat (made c u).core.seats u ≡ record (seat c.seats u) { point = LockOwnerLoad } = own_made c u is ∙ rw (at, at, ne_eqb c.count 0 counted) refl in
    nears (rw at refl) (rw (view, at) (omega arith))
owner_step c u again LockOwnerLoad at is own counted none holds =
    let view : seat (made c u).core.seats u ≡ record (seat c.seats u) { point = LockCountSubtract } = own_made c u is ∙ rw (at, at, eq-eqb c.owner u own) refl in
    nears (rw at refl) (rw (view, at) (omega arith))
owner_step c u again LockCountSubtract at is own counted none holds =
    let view : seat (made c u).core.seats u ≡ record (seat c.seats u) { point = Rest; depth = (seat c.seats u).depth + 1 } = own_made c u is ∙ rw (at, at) refl in
    let most = rest-le ((seat c.seats u).depth + 1) in
    nears (rw at refl) (rw (view, at) (omega (arith, most)))
owner_step c u again TryCountExchange at is own counted none holds =
    let view : seat (made c u).core.seats u ≡ record (seat c.seats u) { point = TryOwnerLoad } = own_made c u is ∙ rw (at, at, ne_eqb c.count 0 counted) refl in
    nears (rw at refl) (rw (view, at) (omega arith))
owner_step c u again TryOwnerLoad at is own counted none holds =
    let view : seat (made c u).core.seats u ≡ record (seat c.seats u) { point = Rest; depth = (seat c.seats u).depth + 1 } = own_made c u is ∙ rw (at, at, eq-eqb c.owner u own) refl in
    let most = rest-le ((seat c.seats u).depth + 1) in
    nears (rw at refl) (rw (view, at) (omega (arith, most)))
owner_step c u again (SendWakeExchange t) at is own counted none holds =
    let view : seat (made c u).core.seats u ≡ (claims (seat c.seats u) t (wake c.wakes t)).seat = own_made c u is ∙ rw (at, at) refl in
    let push : (made c u).core.push ≡ c.push = rw at (other_word c u (target (SendWakeExchange t) u) (kind (SendWakeExchange t)) Word.Push (λ e. cc)) in
    let owner : (made c u).core.owner ≡ c.owner = rw at (other_word c u (target (SendWakeExchange t) u) (kind (SendWakeExchange t)) Word.Owner (λ e. cc)) in
    let after : needs_of (made c u).core u ≡ _ = λ i. needs_at (push i) (view i).depth (view i).point in
    let before : needs_of c u ≡ (seat c.seats u).depth + 5 = rw at refl in
    let left = claims_left c.push (seat c.seats u) t (wake c.wakes t) in
    nears owner (omega (arith, after, before, left))
owner_step c u again (SendCountAdd t) at is own counted none holds =
    let view : seat (made c u).core.seats u ≡ record (seat c.seats u) { point = PushLoad (Pusher.Sender t) } = own_made c u is ∙ rw (at, at, ne_eqb c.count 0 counted) refl in
    nears (rw at refl) (rw (view, at) (omega arith))
owner_step c u again (PushLoad pusher) at is own counted none holds =
    let view : seat (made c u).core.seats u ≡ record (seat c.seats u) { point = LinkStore pusher c.push } = own_made c u is ∙ rw (at, at) refl in
    let push : (made c u).core.push ≡ c.push = rw at refl in
    nears (rw at refl) (rw (view, push, at, same_link_self c.push) (omega arith))
owner_step c u again (LinkStore pusher seen) at is own counted none holds =
    let view : seat (made c u).core.seats u ≡ record (seat c.seats u) { point = PushExchange pusher seen } = own_made c u is ∙ rw (at, at) refl in
    let push : (made c u).core.push ≡ c.push = rw at refl in
    nears (rw at refl) (rw (view, push, at) (omega arith))
owner_step c u again (PushExchange pusher seen) at is own counted none holds =
    elim (cases_Bool (same_link c.push seen)) [
      | inl same ↦
          let view : seat (made c u).core.seats u ≡ record (seat c.seats u) { point = PushedHandoffLoad pusher } = own_made c u is ∙ rw (at, at, same) refl in
          nears (rw at refl) (rw (view, at, same) (omega arith))
      | inr other ↦
          let view : seat (made c u).core.seats u ≡ record (seat c.seats u) { point = LinkStore pusher c.push } = own_made c u is ∙ rw (at, at, other) refl in
          let push : (made c u).core.push ≡ c.push = rw (at, at, other) refl in
          nears (rw at refl) (rw (view, push, at, other, same_link_self c.push) (omega arith))
    ]
owner_step c u again (PushedHandoffLoad Pusher.Locker) at is own counted none holds = absurd (cc)
owner_step c u again (PushedHandoffLoad (Pusher.Sender t)) at is own counted none holds =
    let view : seat (made c u).core.seats u ≡ record (seat c.seats u) { point = Rest } = own_made c u is ∙ rw (at, at, none) refl in
    let most = rest-le (seat c.seats u).depth in
    nears (rw at refl) (rw (view, at) (omega (arith, most)))
owner_step c u again (ReleaseOwnerStore releaser) at is own counted none holds = released (rw (at, at) refl) (rw at refl)
owner_step c u again (EnterOwnerStore entrant how) at is own counted none holds = absurd (enters_unowned u u again entrant how holds)
owner_step c u again _ at is own counted none holds = absurd (cc)
