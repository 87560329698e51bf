-- A send that has claimed a seat and finds the count above 0 pushes the seat's record once: before the push its steps only lead
-- there, and after the push no step leads to another push.
use Rattle.std.proofs.Common.{◌≡◌, ◌≢◌, ◌⊎◌, ⊎_elim, ℕ, Bool, true, false, ◌+◌, ◌<◌, List, [], ◌∷◌, ◌++◌, nat_eq, refl, sym, ap, ◌∙◌, inl, inr, arith}
use Rattle.std.proofs.lemmas.Bool.{cases_Bool, cases_eq, eq-eqb, ne_eqb, false≢true}
use Rattle.std.specs.Prelude.{Option, Some, None}
use Rattle.lfm_protocol.specs.declared.answers.Turn.TheVariants.{Open}
use Rattle.lfm_protocol.specs.declared.points.Carrier.{Carrier}
use Rattle.lfm_protocol.specs.declared.points.Point.{Point}
use Rattle.lfm_protocol.specs.declared.points.Point.TheVariants.{Rest, SendCountAdd, SendPushRecheck, PushLoad, LinkStore, PushExchange, PushedHandoffLoad, PushedHandoffExchange, TakeClearHead, TakeLinkLoad, GrantWakeStore}
use Rattle.lfm_protocol.specs.declared.points.Pusher.{Pusher}
use Rattle.lfm_words.specs.declared.links.Link.{Link}
use Rattle.lfm_words.specs.declared.pop_lists.Record.{Record}
use Rattle.lfm_words.specs.Popped.{oldest}
use Rattle.lfm_protocol.specs.After.{same_link, same_handoff, take}
use Rattle.lfm_protocol.specs.Core.{Core}
use Rattle.lfm_protocol.specs.Seats.{seat, link}
use Rattle.lfm_protocol.specs.Step.{begin, step}
use Rattle.lfm_laws.specs.laws.ClaimedSeats.{IsToCount, pushes_of_call, IsToPush, HasPushed, ClaimedSeatsArePushed, ComesLast, HasQueued, ClaimedSeatsAreQueued}
use Rattle.lfm_laws.specs.laws.Errands.{asks_for_at, claims_for_at}
use Rattle.lfm_laws.specs.laws.Events.{pushed_at_point, pushed_by, popped_by}
use Rattle.lfm_laws.specs.laws.Schedules.{Event, begins, makes, happens, run_of, is_call}
use Rattle.lfm_laws.specs.steady.Steady.{Steady}
use Rattle.lfm_laws.proofs.lawful.bounds.Branches.{of_points, of_turns}
use Rattle.lfm_laws.proofs.lawful.bounds.Leaving.{stepped, seat_of_call, begin_leaves}
use Rattle.lfm_laws.proofs.lawful.calls.QueueSteps.{Goes, queue_made}
use Rattle.lfm_laws.proofs.lawful.calls.ReceivesTold.{open_ended}
use Rattle.lfm_laws.proofs.lawful.calls.WaitsTold.{own_after, own_turn, other_step}
use Rattle.lfm_laws.proofs.lawful.runs.Reached.{run_keeps}
use Rattle.lfm_laws.proofs.steady.frames.Seated.{test_of_seat}

-- The points of a send from its push on

-- a send at this point has yet to push seat t
data PushesAt (t : ℕ) (p : Point) : Type 0 where
  loads : p ≡ PushLoad (Pusher.Sender t) → PushesAt t p
  stores : (seen : Link) → p ≡ LinkStore (Pusher.Sender t) seen → PushesAt t p
  exchanges : (seen : Link) → p ≡ PushExchange (Pusher.Sender t) seen → PushesAt t p

is_inside : (t : ℕ) (p : Point) → PushesAt t p → is_call p ≡ true
is_inside t p (loads at) = rw at refl
is_inside t p (stores seen at) = rw at refl
is_inside t p (exchanges seen at) = rw at refl

asks_target : (t depth s : ℕ) (p : Point) → PushesAt t p → asks_for_at depth s p ≡ t
asks_target t depth s p (loads at) = rw at refl
asks_target t depth s p (stores seen at) = rw at refl
asks_target t depth s p (exchanges seen at) = rw at refl

-- a send at this point has pushed, or has ended
abbrev is_past_push : Point → Bool
is_past_push Rest = true
is_past_push (PushedHandoffLoad (Pusher.Sender t)) = true
is_past_push (SendPushRecheck t seen) = true
is_past_push (PushedHandoffExchange (Pusher.Sender t) seen) = true
is_past_push (TakeClearHead Carrier.Sender) = true
is_past_push (TakeLinkLoad Carrier.Sender next) = true
is_past_push (GrantWakeStore Carrier.Sender r) = true
is_past_push _ = false

abbrev IsPastPush : Point → Type 0
IsPastPush p = is_past_push p ≡ true

-- After the push

past_take : (s : ℕ) (first : Option Record) → IsPastPush (take Carrier.Sender s first)
past_take s None = refl
past_take s (Some r) = refl

stays_past_push : (c : Core) (s : ℕ) (p : Point) → (seat c.seats s).point ≡ p → is_call p ≡ true → IsPastPush p → IsPastPush (stepped c s).seat.point
stays_past_push c s Rest at inside past = absurd (false≢true inside)
stays_past_push c s (PushedHandoffLoad (Pusher.Sender t)) at inside past =
    rw (at, at) (of_turns IsPastPush (nat_eq c.handoff.seat 0) _ _ refl refl)
stays_past_push c s (SendPushRecheck t seen) at inside past = rw (at, at) (of_turns IsPastPush (nat_eq c.push.next 0) _ _ refl refl)
stays_past_push c s (PushedHandoffExchange (Pusher.Sender t) seen) at inside past =
    rw (at, at) (of_turns IsPastPush (same_handoff c.handoff seen) _ _ (past_take s (oldest c.popped)) refl)
stays_past_push c s (TakeClearHead Carrier.Sender) at inside past = rw (at, at) refl
stays_past_push c s (TakeLinkLoad Carrier.Sender next) at inside past =
    rw (at, at) (of_points IsPastPush (nat_eq (link c.links next).next 0) _ _ refl refl)
stays_past_push c s (GrantWakeStore Carrier.Sender r) at inside past = rw (at, at) refl
stays_past_push c s _ at inside past = absurd (false≢true past)

pushes_nothing : (c : Core) (s : ℕ) (p : Point) → IsPastPush p → pushed_at_point c s p ≡ []
pushes_nothing c s (PushExchange pusher seen) past = absurd (false≢true past)
pushes_nothing c s _ past = refl

none_more : (c : Core) (s : ℕ) (events : List Event) → IsPastPush (seat c.seats s).point → pushes_of_call c s events ≡ []
none_more c s [] past = refl
none_more c s (begins t call ∷ later) past =
    elim (cases_Bool (is_call (seat c.seats s).point)) [
      | inl inside ↦
          let same = (begin_leaves c t s call inside).view in
          rw inside (none_more (begin c t call).core s later (ap (λ x. is_past_push x.point) same ∙ past))
      | inr outside ↦ rw outside refl
    ]
none_more c s (makes t ∷ later) past =
    elim (cases_Bool (is_call (seat c.seats s).point)) [
      | inl inside ↦ elim (cases_eq t s) [
        | inl own ↦
            let after = own_after c s (seat_of_call c s inside) in
            let next = stays_past_push c s (seat c.seats s).point refl inside past in
            let rest = none_more (step c s).core s later (ap (λ x. is_past_push x.point) after ∙ next) in
            rw (inside, own, eq-eqb s s refl, pushes_nothing c s (seat c.seats s).point past) rest
        | inr other ↦
            let same = other_step c t s (λ e. other (sym e)) in
            rw (inside, ne_eqb t s other) (none_more (step c t).core s later (ap (λ x. is_past_push x.point) same ∙ past))
      ]
      | inr outside ↦ rw outside refl
    ]

-- The push

-- after the next step, seat s still has to push seat t, or that step pushes t
data NextStep (c : Core) (s t : ℕ) : Type 0 where
  keeps : PushesAt t (stepped c s).seat.point → pushed_by c s ≡ [] → NextStep c s t
  pushes : (seen : Link) → (seat c.seats s).point ≡ PushExchange (Pusher.Sender t) seen → same_link c.push seen ≡ true → NextStep c s t

next_step : (c : Core) (s t : ℕ) → PushesAt t (seat c.seats s).point → NextStep c s t
next_step c s t (loads at) = keeps (stores c.push (rw (at, at) refl)) (rw at refl)
next_step c s t (stores seen at) = keeps (exchanges seen (rw (at, at) refl)) (rw at refl)
next_step c s t (exchanges seen at) =
    elim (cases_Bool (same_link c.push seen)) [
      | inl same ↦ pushes seen at same
      | inr other ↦ keeps (stores c.push (rw (at, at, other) refl)) (rw (at, other) refl)
    ]

pushed_record : (c : Core) (s t : ℕ) (seen : Link) → (seat c.seats s).point ≡ PushExchange (Pusher.Sender t) seen → same_link c.push seen ≡ true
    → pushed_by c s ≡ record { seat = t; stamp = seen.stamp + 1 } ∷ []
pushed_record c s t seen at same = rw (at, same) refl

past_after : (c : Core) (s t : ℕ) (seen : Link) → (seat c.seats s).point ≡ PushExchange (Pusher.Sender t) seen → same_link c.push seen ≡ true
    → IsPastPush (stepped c s).seat.point
past_after c s t seen at same = rw (at, at, same) refl

-- such a step ends no call
open_step : (c : Core) (s t : ℕ) → PushesAt t (seat c.seats s).point → (stepped c s).turn ≡ Open
open_step c s t (loads at) = rw (at, at) refl
open_step c s t (stores seen at) = rw (at, at) refl
open_step c s t (exchanges seen at) = rw (at, at) refl

-- Runs

later_to_push : (c : Core) (e : Event) (s t : ℕ) (later : List Event) → pushes_of_call c s (e ∷ later) ≡ pushes_of_call (happens c e).core s later
    → IsToPush (happens c e).core s t later ⊎ HasPushed (happens c e).core s t later → IsToPush c s t (e ∷ later) ⊎ HasPushed c s t (e ∷ later)
later_to_push c e s t later same (inl yet) = inl (record { nothing = same ∙ yet.nothing; asks = yet.asks })
later_to_push c e s t later same (inr pushed) = inr (record { stamp = pushed.stamp; only = same ∙ pushed.only })

run_pushes : (c : Core) (s t : ℕ) (events : List Event) → PushesAt t (seat c.seats s).point → IsToPush c s t events ⊎ HasPushed c s t events
run_pushes c s t [] here = inl (record { nothing = refl; asks = asks_target t (seat c.seats s).depth s (seat c.seats s).point here })
run_pushes c s t (begins u call ∷ later) here =
    let inside = is_inside t (seat c.seats s).point here in
    let same = (begin_leaves c u s call inside).view in
    later_to_push c (begins u call) s t later (rw inside refl) (run_pushes (begin c u call).core s t later (rw same here))
run_pushes c s t (makes u ∷ later) here =
    let inside = is_inside t (seat c.seats s).point here in
    elim (cases_eq u s) [
      | inl own ↦ rw own (elim (next_step c s t here) [
        | keeps next none ↦
            later_to_push c (makes s) s t later (rw (inside, eq-eqb s s refl, none) refl)
            (run_pushes (step c s).core s t later (rw (own_after c s (seat_of_call c s inside)) next))
        | pushes seen at same ↦
            let past = ap (λ x. is_past_push x.point) (own_after c s (seat_of_call c s inside)) ∙ past_after c s t seen at same in
            let first = pushed_record c s t seen at same in
            let rest = none_more (step c s).core s later past in
            inr (record { stamp = seen.stamp + 1; only = rw (inside, eq-eqb s s refl, first, rest) refl })
      ])
      | inr other ↦
          let same = other_step c u s (λ e. other (sym e)) in
          later_to_push c (makes u) s t later (rw (inside, ne_eqb u s other) refl) (run_pushes (step c u).core s t later (rw same here))
    ]

-- The queue

queue_grows : (before after added removed : List Record) (r : Record) → Goes before after added removed → added ≡ r ∷ [] → removed ≡ []
    → after ≡ before ++ r ∷ []
queue_grows before after added removed r goes pushed none = sym (rw (pushed, none) at goes)

comes_last : (c : Core) (s t : ℕ) (seen : Link) → Steady c → (seat c.seats s).point ≡ PushExchange (Pusher.Sender t) seen → same_link c.push seen ≡ true
    → ComesLast c (step c s).core t
comes_last c s t seen steady at same =
    let is = seat_of_call c s (rw at refl) in
    let stamp : (step c s).core.push.stamp ≡ seen.stamp + 1 = rw (test_of_seat c.seats s is, at, at, same) refl in
    rw stamp (queue_grows _ _ (pushed_by c s) (popped_by c s) _ (queue_made c steady.ghost_state s steady.fits) (pushed_record c s t seen at same) (rw at refl))

run_queues : (c : Core) (s t : ℕ) (events : List Event) → Steady c → PushesAt t (seat c.seats s).point
    → PushesAt t (seat (run_of c events).seats s).point ⊎ HasQueued c s t events
run_queues c s t [] steady here = inl here
run_queues c s t (begins u call ∷ later) steady here =
    let same = (begin_leaves c u s call (is_inside t (seat c.seats s).point here)).view in
    ⊎_elim (λ yet. inl yet) (λ queued. inr (inr queued))
    (run_queues (begin c u call).core s t later (run_keeps c (begins u call ∷ []) steady) (rw same here))
run_queues c s t (makes u ∷ later) steady here =
    elim (cases_eq u s) [
      | inl own ↦ rw own (elim (next_step c s t here) [
        | keeps next none ↦
            let after = own_after c s (seat_of_call c s (is_inside t (seat c.seats s).point here)) in
            ⊎_elim (λ yet. inl yet) (λ queued. inr (inr queued))
            (run_queues (step c s).core s t later (run_keeps c (makes s ∷ []) steady) (rw after next))
        | pushes seen at same ↦ inr (inl (refl, comes_last c s t seen steady at same))
      ])
      | inr other ↦
          let same = other_step c u s (λ e. other (sym e)) in
          ⊎_elim (λ yet. inl yet) (λ queued. inr (inr queued))
          (run_queues (step c u).core s t later (run_keeps c (makes u ∷ []) steady) (rw same here))
    ]

-- The claim

point_of_claim : (p : Point) (t : ℕ) → 0 < t → claims_for_at p ≡ t → p ≡ SendCountAdd t
point_of_claim (SendCountAdd u) t some e = ap SendCountAdd e
point_of_claim _ t some e = absurd (omega (arith, some, e))

-- the add leads the send to its push
leads_to_push : (c : Core) (s t : ℕ) → IsToCount c s t → PushesAt t (seat (step c s).core.seats s).point
leads_to_push c s t is =
    let at = point_of_claim (seat c.seats s).point t is.some is.claims in
    let counted = is.counted in
    let more : c.count ≢ 0 = λ none. omega (arith, counted, none) in
    let inside : is_call (seat c.seats s).point ≡ true = rw at refl in
    let after : (stepped c s).seat.point ≡ PushLoad (Pusher.Sender t) = rw (at, at, ne_eqb c.count 0 more) refl in
    loads (ap (λ x. x.point) (own_after c s (seat_of_call c s inside)) ∙ after)

pub claimed_seats_are_pushed : ClaimedSeatsArePushed
claimed_seats_are_pushed c s t events is = run_pushes (step c s).core s t events (leads_to_push c s t is)

pub claimed_seats_are_queued : ClaimedSeatsAreQueued
claimed_seats_are_queued c s t events answer steady is stays turn =
    let d = run_of (step c s).core events in
    ⊎_elim
    (λ here.
    let opens = open_step d s t here in
    let same = own_turn d s (seat_of_call d s (is_inside t (seat d.seats s).point here)) in
    absurd (open_ended answer (sym (same ∙ opens) ∙ turn)))
    (λ queued. queued) (run_queues (step c s).core s t events (run_keeps c (makes s ∷ []) steady) (leads_to_push c s t is))
