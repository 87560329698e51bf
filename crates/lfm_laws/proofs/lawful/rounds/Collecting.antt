-- Collecting: the record that a carrier collects next stays the same until it does so, and only a clear-head starts a walk. So a
-- step that neither clears nor collects keeps the stamp of that record.
use Rattle.std.proofs.Common.{◌≡◌, ◌≢◌, ℕ, Bool, true, false, ◌+◌, Option, Some, None, nat_eq, refl, sym, ap, subst, ◌∙◌, inl, inr, arith, if◌then◌else◌}
use Rattle.std.specs.Prelude.{◌⊎◌}
use Rattle.std.proofs.lemmas.Bool.{cases_Bool, cases_eq, eq-eqb, false≢true}
use Rattle.lfm_model.specs.declared.answers.How.{How}
use Rattle.lfm_model.specs.declared.answers.Unlocked.{Unlocked}
use Rattle.lfm_protocol.specs.declared.kinds.Word.{Word}
use Rattle.lfm_protocol.specs.declared.points.Carrier.{Carrier}
use Rattle.lfm_protocol.specs.declared.points.Entrant.{Entrant}
use Rattle.lfm_protocol.specs.declared.points.Point.{Point}
use Rattle.lfm_protocol.specs.declared.points.Point.TheVariants.{Rest, Asleep, LockCountAdd, LockOwnerLoad, LockCountSubtract, TryCountExchange, TryOwnerLoad, TryHandoffLoad, TryHandoffExchange, TryCountAdd, SendWakeExchange, SendCountAdd, SendPushRecheck, SendWakeStore, PushLoad, LinkStore, PushExchange, PushedHandoffLoad, PushedHandoffExchange, ReleaseOwnerStore, ReleaseCountSubtract, ReleaseHandoffStore, ReleasePushRecheck, ReleaseHandoffExchange, WaitWakeStore, TakeClearHead, TakeLinkLoad, GrantWakeStore, EnterOwnerStore, ReceiveWakeLoad, ReceiveWakeStore}
use Rattle.lfm_protocol.specs.declared.points.Pusher.{Pusher}
use Rattle.lfm_protocol.specs.declared.points.Releaser.{Releaser}
use Rattle.lfm_protocol.specs.declared.points.Releaser.TheVariants.{Unlocker, Waiter}
use Rattle.lfm_protocol.specs.declared.points.Sleeper.{Sleeper}
use Rattle.lfm_protocol.specs.declared.seats.SeatState.{SeatState}
use Rattle.lfm_words.specs.declared.handoffs.Handoff.{Handoff}
use Rattle.lfm_words.specs.declared.links.Link.{Link}
use Rattle.lfm_words.specs.declared.pop_lists.Record.{Record}
use Rattle.lfm_words.specs.declared.wakes.Wake.{Wake}
use Rattle.lfm_words.specs.declared.wakes.Wake.TheVariants.{Grant, Waiting}
use Rattle.lfm_words.specs.Popped.{oldest}
use Rattle.lfm_protocol.specs.After.{same_link, same_handoff, releases, pushed, granted, found_posted, carrier_of, serves, take, receives, claims}
use Rattle.lfm_protocol.specs.Begin.{Stepped}
use Rattle.lfm_protocol.specs.Core.{Core}
use Rattle.lfm_protocol.specs.Points.{kind, target, pushed_seat}
use Rattle.lfm_protocol.specs.Seats.{seat, link, wake, IsSeat}
use Rattle.lfm_protocol.specs.Step.{made}
use Rattle.lfm_laws.specs.steady.Ghost as Places
use Rattle.lfm_laws.specs.steady.Ghost.{Responsibility, nobody, owned, posted, entering, accepting, leaving, serving, asks, queued, Ghost}
use Rattle.lfm_laws.specs.steady.Steady.{CarriedFits, KnowsAt, Fits}
use Rattle.lfm_laws.specs.steady.Views.{claim_at}
use Rattle.lfm_laws.proofs.lawful.bounds.CallWeights.{is_walking, walking_serves}
use Rattle.lfm_laws.proofs.lawful.bounds.Leaving.{stepped, own_made, other_made}
use Rattle.lfm_laws.proofs.lawful.touched.OneWord.{other_word}
use Rattle.lfm_laws.proofs.steady.frames.Frames.{place_of_claim}
use Rattle.lfm_laws.proofs.steady.queue.Linking.{pushed_asks}
use Rattle.lfm_laws.proofs.lawful.rounds.Carriers.{IsCarried, not_carried}

-- Who collects

-- the seat that collects next has the stamp of the newest record that is left to collect
pub walking_stamp : (c : Core) (g : Ghost) (u : ℕ) (carrier : Carrier) (next : ℕ) → (seat c.seats u).point ≡ TakeLinkLoad carrier next → Fits c g
    → ((link c.links next).stamp ≡ g.popped + g.walk) × (g.standing next ≡ queued (g.popped + g.walk))
walking_stamp c g u carrier next at fits =
    let knows = rw at at (fits.each u).knows in
    let some = knows.0 in
    let here = fits.stamps (g.popped + g.walk) (omega (arith, some)) (omega (arith, fits.words.parts)) in
    let walked = here.walked (omega arith) in
    (ap (λ n. (link c.links n).stamp) knows.1 ∙ ap (λ (l : Link). l.stamp) walked, ap g.standing knows.1 ∙ here.stands)

walker_is : (c : Core) (g : Ghost) (u : ℕ) → is_walking (seat c.seats u).point ≡ true → Fits c g → g.place ≡ serving u
walker_is c g u walks fits =
    place_of_claim g.place (serving u) u (λ e. cc) (sym (walking_serves (seat c.seats u).depth u (seat c.seats u).point walks) ∙ (fits.each u).claims)

serving_walk : (c : Core) (g : Ghost) (depth u posts : ℕ) (p : Point) → claim_at depth u p ≡ serving u → KnowsAt c g u posts p → is_walking p ≡ false → g.walk ≡ 0
serving_walk c g depth u posts (ReleaseHandoffStore releaser) claims knows stands = knows.0
serving_walk c g depth u posts (TakeClearHead carrier) claims knows stands = knows.0
serving_walk c g depth u posts (GrantWakeStore carrier r) claims knows stands = knows.0
serving_walk c g depth u posts (TakeLinkLoad carrier next) claims knows stands = absurd (false≢true (sym stands))
serving_walk c g depth u posts (EnterOwnerStore Entrant.Locker (How.Queued stamp)) claims knows stands = knows.0
serving_walk c g depth u posts (EnterOwnerStore Entrant.Locker How.Free) claims knows stands = absurd (cc)
serving_walk c g depth u posts (EnterOwnerStore Entrant.Trier how) claims knows stands = absurd (cc)
serving_walk c g depth u posts (EnterOwnerStore Entrant.Receiver how) claims knows stands = absurd (cc)
serving_walk c g depth u posts TryCountAdd claims knows stands = absurd (cc)
serving_walk c g depth u posts (ReceiveWakeStore stamp) claims knows stands = absurd (cc)
serving_walk c g depth u posts (SendWakeStore t) claims knows stands = absurd (cc)
serving_walk c g depth u posts (ReleaseCountSubtract releaser) claims knows stands = absurd (cc)
serving_walk c g depth u posts p claims knows stands = absurd (not_carried depth u p refl (subst IsCarried (sym claims) tt))

walk_zero_at : (c : Core) (g : Ghost) (p : Responsibility) → g.place ≡ p → Fits c g → ((u : ℕ) → p ≡ serving u → is_walking (seat c.seats u).point ≡ false) → CarriedFits p g.walk c.popped → g.walk ≡ 0
walk_zero_at c g nobody place fits none carried = carried
walk_zero_at c g (owned s again) place fits none carried = carried
walk_zero_at c g (Places.granted s stamp) place fits none carried = carried
walk_zero_at c g posted place fits none carried = carried.0
walk_zero_at c g (entering s into stamp) place fits none carried = carried
walk_zero_at c g (accepting s) place fits none carried = carried
walk_zero_at c g (leaving s) place fits none carried = carried
walk_zero_at c g (serving s) place fits none carried =
    serving_walk c g (seat c.seats s).depth s (seat c.seats s).posts (seat c.seats s).point ((fits.each s).claims ∙ rw (place, eq-eqb s s refl) refl) (fits.each s).knows (none s refl)

walk_zero : (c : Core) (g : Ghost) → Fits c g → ((u : ℕ) → g.place ≡ serving u → is_walking (seat c.seats u).point ≡ false) → g.walk ≡ 0
walk_zero c g fits none = walk_zero_at c g g.place refl fits none fits.words.carried

-- a seat that collects
record Walker (c : Core) : Type 0 where
  pub who : ℕ
  pub carrier : Carrier
  pub next : ℕ
  pub here : (seat c.seats who).point ≡ TakeLinkLoad carrier next

walker_at : (c : Core) (u : ℕ) (p : Point) → (seat c.seats u).point ≡ p → is_walking p ≡ true → Walker c
walker_at c u (TakeLinkLoad carrier next) at walks = record { who = u; carrier = carrier; next = next; here = at }
walker_at c u _ at walks = absurd (false≢true walks)

who_walks_at : (c : Core) (p : Responsibility) → Walker c ⊎ ((u : ℕ) → p ≡ serving u → is_walking (seat c.seats u).point ≡ false)
who_walks_at c (serving s) =
    elim (cases_Bool (is_walking (seat c.seats s).point)) [
      | inl walks ↦ inl (walker_at c s (seat c.seats s).point refl walks)
      | inr stands ↦ inr (λ u e. let same : s ≡ u = cc in subst (λ (x : ℕ). is_walking (seat c.seats x).point ≡ false) same stands)
    ]
who_walks_at c nobody = inr (λ u e. absurd (cc))
who_walks_at c (owned s again) = inr (λ u e. absurd (cc))
who_walks_at c (Places.granted s stamp) = inr (λ u e. absurd (cc))
who_walks_at c posted = inr (λ u e. absurd (cc))
who_walks_at c (entering s into stamp) = inr (λ u e. absurd (cc))
who_walks_at c (accepting s) = inr (λ u e. absurd (cc))
who_walks_at c (leaving s) = inr (λ u e. absurd (cc))

-- Only a step that clears the push list, or one that collects, leads to one that collects

abbrev Stands : Stepped → Type 0
Stands m = is_walking m.seat.point ≡ false

either : (b : Bool) (m n : Stepped) → Stands m → Stands n → Stands (if b then m else n)
either true m n first second = first
either false m n first second = second

either_point : (b : Bool) (p q : Point) → is_walking p ≡ false → is_walking q ≡ false → is_walking (if b then p else q) ≡ false
either_point true p q first second = first
either_point false p q first second = second

of_releases : (x : SeatState) (releaser : Releaser) (answer : Unlocked) → Stands (releases x releaser answer)
of_releases x Unlocker answer = refl
of_releases x Waiter answer = refl

of_pushed : (x : SeatState) (pusher : Pusher) → Stands (pushed x pusher)
of_pushed x Pusher.Locker = refl
of_pushed x (Pusher.Sender t) = refl

of_found : (pusher : Pusher) (found : Handoff) → is_walking (found_posted pusher found) ≡ false
of_found Pusher.Locker found = refl
of_found (Pusher.Sender t) found = refl

of_serves : (carrier : Carrier) (s : ℕ) (r : Record) → is_walking (serves carrier s r) ≡ false
of_serves Carrier.Locker s r = either_point (nat_eq r.seat s) _ _ refl refl
of_serves (Carrier.Releaser releaser) s r = refl
of_serves (Carrier.Reclaimer releaser) s r = refl
of_serves Carrier.Sender s r = refl

of_take : (carrier : Carrier) (s : ℕ) (o : Option Record) → is_walking (take carrier s o) ≡ false
of_take carrier s None = refl
of_take carrier s (Some r) = of_serves carrier s r

of_granted : (x : SeatState) (carrier : Carrier) (r : Record) → Stands (granted x carrier r)
of_granted x Carrier.Locker r = refl
of_granted x (Carrier.Releaser releaser) r = of_releases x releaser _
of_granted x (Carrier.Reclaimer releaser) r = of_releases x releaser _
of_granted x Carrier.Sender r = refl

of_receives : (x : SeatState) (sleeper : Sleeper) (w : Wake) → Stands (receives x sleeper w)
of_receives x sleeper (Grant stamp) = refl
of_receives x sleeper _ = refl

of_claims : (x : SeatState) (t : ℕ) (w : Wake) → Stands (claims x t w)
of_claims x t Waiting = refl
of_claims x t _ = refl

abbrev pub collects : Point → Bool
collects (TakeClearHead carrier) = true
collects (TakeLinkLoad carrier next) = true
collects _ = false

next_stands : (c : Core) (s : ℕ) (p : Point) → (seat c.seats s).point ≡ p → collects p ≡ false → Stands (stepped c s)
next_stands c s (TakeClearHead carrier) at other = absurd (false≢true (sym other))
next_stands c s (TakeLinkLoad carrier next) at other = absurd (false≢true (sym other))
next_stands c s Rest at other = rw (at, at) refl
next_stands c s (Asleep sleeper) at other = rw (at, at) refl
next_stands c s LockCountAdd at other = rw (at, at) (either_point (nat_eq c.count 0) _ _ refl refl)
next_stands c s LockOwnerLoad at other = rw (at, at) (either_point (nat_eq c.owner s) _ _ refl refl)
next_stands c s LockCountSubtract at other = rw (at, at) refl
next_stands c s TryCountExchange at other = rw (at, at) (either_point (nat_eq c.count 0) _ _ refl refl)
next_stands c s TryOwnerLoad at other = rw (at, at) (either (nat_eq c.owner s) _ _ refl refl)
next_stands c s TryHandoffLoad at other = rw (at, at) (either (nat_eq c.handoff.seat 0) _ _ refl refl)
next_stands c s (TryHandoffExchange seen) at other = rw (at, at) (either (same_handoff c.handoff seen) _ _ refl refl)
next_stands c s TryCountAdd at other = rw (at, at) refl
next_stands c s (SendWakeExchange t) at other = rw (at, at) (of_claims (seat c.seats s) t (wake c.wakes t))
next_stands c s (SendCountAdd t) at other = rw (at, at) (either_point (nat_eq c.count 0) _ _ refl refl)
next_stands c s (SendPushRecheck t seen) at other = rw (at, at) (either (nat_eq c.push.next 0) _ _ refl refl)
next_stands c s (SendWakeStore t) at other = rw (at, at) refl
next_stands c s (PushLoad pusher) at other = rw (at, at) refl
next_stands c s (LinkStore pusher seen) at other = rw (at, at) refl
next_stands c s (PushExchange pusher seen) at other = rw (at, at) (either_point (same_link c.push seen) _ _ refl refl)
next_stands c s (PushedHandoffLoad pusher) at other = rw (at, at) (either (nat_eq c.handoff.seat 0) _ _ (of_pushed (seat c.seats s) pusher) (of_found pusher c.handoff))
next_stands c s (PushedHandoffExchange pusher seen) at other =
    rw (at, at) (either (same_handoff c.handoff seen) _ _ (of_take (carrier_of pusher) s (oldest c.popped)) (of_pushed (seat c.seats s) pusher))
next_stands c s (ReleaseOwnerStore releaser) at other = rw (at, at) refl
next_stands c s (ReleaseCountSubtract releaser) at other =
    rw (at, at) (either (nat_eq c.count 1) _ _ (of_releases (seat c.seats s) releaser _) (of_take (Carrier.Releaser releaser) s (oldest c.popped)))
next_stands c s (ReleaseHandoffStore releaser) at other = rw (at, at) refl
next_stands c s (ReleasePushRecheck releaser) at other = rw (at, at) (either (nat_eq c.push.next 0) _ _ (of_releases (seat c.seats s) releaser _) refl)
next_stands c s (ReleaseHandoffExchange releaser) at other =
    rw (at, at) (either (same_handoff c.handoff (record { seat = s; post = (seat c.seats s).posts })) _ _ (of_take (Carrier.Reclaimer releaser) s (oldest c.popped)) (of_releases (seat c.seats s) releaser _))
next_stands c s (WaitWakeStore released) at other = rw (at, at) refl
next_stands c s (GrantWakeStore carrier r) at other = rw (at, at) (of_granted (seat c.seats s) carrier r)
next_stands c s (EnterOwnerStore entrant how) at other = rw (at, at) refl
next_stands c s (ReceiveWakeLoad sleeper) at other = rw (at, at) (of_receives (seat c.seats s) sleeper (wake c.wakes s))
next_stands c s (ReceiveWakeStore stamp) at other = rw (at, at) refl

-- The walk after a step that neither clears nor collects

link_same : (c : Core) (g : Ghost) (t next stamp : ℕ) (p : Point) → (seat c.seats t).point ≡ p → collects p ≡ false → Fits c g → g.standing next ≡ queued stamp
    → link (made c t).core.links next ≡ link c.links next
link_same c g t next stamp (LinkStore pusher seen) at other fits stands =
    let here = fits.each t in
    let knows = rw at at here.knows in
    let asked : g.standing (pushed_seat pusher t) ≡ asks t = pushed_asks g t pusher (rw at at here.stands) knows.0 in
    let differs : pushed_seat pusher t ≢ next = λ e. let both : asks t ≡ queued stamp = sym asked ∙ ap g.standing e ∙ stands in cc in
    rw at (other_word c t (pushed_seat pusher t) (kind (LinkStore pusher seen)) (Word.Link next) (λ e. differs (cc)))
link_same c g t next stamp (TakeLinkLoad carrier n) at other fits stands = absurd (false≢true (sym other))
link_same c g t next stamp p at other fits stands = rw at (other_word c t (target p t) (kind p) (Word.Link next) (λ e. cc))

pub walk_next : (c : Core) (g h : Ghost) (t : ℕ) (p : Point) → (seat c.seats t).point ≡ p → collects p ≡ false → IsSeat c.seats t → Fits c g → Fits (made c t).core h
    → (h.popped + h.walk ≡ g.popped + g.walk) ⊎ ((g.walk ≡ 0) × (h.walk ≡ 0))
walk_next c g h t p at other is fits after =
    elim (who_walks_at c g.place) [
      | inl w ↦
          let apart : w.who ≢ t = λ e. let same : p ≡ TakeLinkLoad w.carrier w.next = sym at ∙ ap (λ x. (seat c.seats x).point) (sym e) ∙ w.here in false≢true (sym other ∙ ap collects same) in
          let before = walking_stamp c g w.who w.carrier w.next w.here fits in
          let still : (seat (made c t).core.seats w.who).point ≡ TakeLinkLoad w.carrier w.next = rw (other_made c t w.who apart) w.here in
          let next = walking_stamp (made c t).core h w.who w.carrier w.next still after in
          let same = link_same c g t w.next (g.popped + g.walk) p at other fits before.1 in
          inl (sym next.0 ∙ ap (λ (l : Link). l.stamp) same ∙ before.0)
      | inr none ↦
          let zero = walk_zero c g fits none in
          let stands : is_walking (stepped c t).seat.point ≡ false = next_stands c t p at other in
          inr (
            zero,
            walk_zero (made c t).core h after (λ u place. elim (cases_eq u t) [
              | inl own ↦ rw (own, own_made c t is) stands
              | inr apart ↦ elim (cases_Bool (is_walking (seat c.seats u).point)) [
                | inl walks ↦ absurd (false≢true (sym (none u (walker_is c g u walks fits)) ∙ walks))
                | inr idle ↦ rw (other_made c t u apart) idle
              ]
            ]),
          )
    ]
