-- A send pushes at most one record, which is for its target, and pushes no other after it.
use Rattle.std.proofs.Common.{◌≡◌, ◌⊎◌, ℕ, ◌+◌, Bool, true, false, Option, Some, None, [], ◌∷◌, nat_eq, refl, sym, ◌∙◌, inl, inr, if◌then◌else◌}
use Rattle.std.proofs.lemmas.Bool.{cases_Bool, false≢true}
use Rattle.lfm_protocol.specs.declared.answers.Answer.{Answer}
use Rattle.lfm_protocol.specs.declared.points.Carrier.{Carrier}
use Rattle.lfm_protocol.specs.declared.points.Point.{Point}
use Rattle.lfm_protocol.specs.declared.points.Point.TheVariants.{Rest, SendCountAdd, SendPushRecheck, SendWakeStore, PushLoad, LinkStore, PushExchange, PushedHandoffLoad, PushedHandoffExchange, TakeClearHead, TakeLinkLoad, GrantWakeStore}
use Rattle.lfm_protocol.specs.declared.points.Pusher.{Pusher}
use Rattle.lfm_protocol.specs.declared.seats.SeatState.{SeatState}
use Rattle.lfm_words.specs.declared.handoffs.Handoff.{Handoff}
use Rattle.lfm_words.specs.declared.pop_lists.Record.{Record}
use Rattle.lfm_words.specs.Popped.{oldest}
use Rattle.lfm_protocol.specs.After.{same_link, same_handoff, pushed, granted, found_posted, carrier_of, serves, take, once_cleared, loaded}
use Rattle.lfm_protocol.specs.Begin.{Stepped, goes_on, ends}
use Rattle.lfm_protocol.specs.Core.{Core}
use Rattle.lfm_protocol.specs.Seats.{seat, link}
use Rattle.lfm_laws.specs.laws.Events.{pushed_at_point}
use Rattle.lfm_laws.proofs.lawful.bounds.Leaving.{stepped}
use Rattle.lfm_condvar_laws.proofs.Invariant.{is_sender, carries_for_send, sends_at}

abbrev pub sent_to : Pusher → Option ℕ
sent_to (Pusher.Sender t) = Some t
sent_to Pusher.Locker = None

-- the target of a send that has claimed it and may still push a record for it
abbrev pub to_push : Point → Option ℕ
to_push (SendCountAdd t) = Some t
to_push (PushLoad pusher) = sent_to pusher
to_push (LinkStore pusher seen) = sent_to pusher
to_push (PushExchange pusher seen) = sent_to pusher
to_push _ = None

none_if : (b : Bool) (m n : Stepped) → to_push m.seat.point ≡ None → to_push n.seat.point ≡ None
    → to_push (if b then m else n).seat.point ≡ None
none_if true m n first second = first
none_if false m n first second = second

none_at : (b : Bool) (p q : Point) → to_push p ≡ None → to_push q ≡ None → to_push (if b then p else q) ≡ None
none_at true p q first second = first
none_at false p q first second = second

of_pushed : (x : SeatState) (pusher : Pusher) → is_sender pusher ≡ true → to_push (pushed x pusher).seat.point ≡ None
of_pushed x Pusher.Locker sender = absurd (false≢true sender)
of_pushed x (Pusher.Sender t) sender = refl

of_granted : (x : SeatState) (carrier : Carrier) (r : Record) → carries_for_send carrier ≡ true
    → to_push (granted x carrier r).seat.point ≡ None
of_granted x Carrier.Sender r sender = refl
of_granted x _ r sender = absurd (false≢true sender)

of_found_posted : (pusher : Pusher) (found : Handoff) → is_sender pusher ≡ true → to_push (found_posted pusher found) ≡ None
of_found_posted Pusher.Locker found sender = absurd (false≢true sender)
of_found_posted (Pusher.Sender t) found sender = refl

of_serves : (carrier : Carrier) (s : ℕ) (r : Record) → carries_for_send carrier ≡ true → to_push (serves carrier s r) ≡ None
of_serves Carrier.Sender s r sender = refl
of_serves _ s r sender = absurd (false≢true sender)

of_take : (pusher : Pusher) (s : ℕ) (first : Option Record) → is_sender pusher ≡ true
    → to_push (take (carrier_of pusher) s first) ≡ None
of_take Pusher.Locker s first sender = absurd (false≢true sender)
of_take (Pusher.Sender t) s None sender = refl
of_take (Pusher.Sender t) s (Some r) sender = refl

of_cleared : (carrier : Carrier) (head : ℕ) → carries_for_send carrier ≡ true → to_push (once_cleared carrier head) ≡ None
of_cleared Carrier.Sender head sender = refl
of_cleared _ head sender = absurd (false≢true sender)

-- if the send may still push for t after the step, it might before the step, and the step pushed no record
abbrev pub StillPushes : Core → ℕ → Point → Option ℕ → Type 0
StillPushes c s p after = (t : ℕ) → after ≡ Some t → (to_push p ≡ Some t) × (pushed_at_point c s p ≡ [])

no_more : (c : Core) (s : ℕ) (p : Point) (after : Option ℕ) → after ≡ None → StillPushes c s p after
no_more c s p after none t some = let clash : None ≡ Some t = sym none ∙ some in cc

still_at : (c : Core) (s : ℕ) (p : Point) → (seat c.seats s).point ≡ p → sends_at p ≡ true
    → StillPushes c s p (to_push (stepped c s).seat.point)
still_at c s Rest at before = no_more c s Rest _ (rw (at, at) refl)
still_at c s (SendCountAdd u) at before =
    elim (cases_Bool (nat_eq c.count 0)) [
      | inl first ↦ no_more c s (SendCountAdd u) _ (rw (at, at, first) refl)
      | inr later ↦ λ t some. (rw (at, at, later) at some, refl)
    ]
still_at c s (SendPushRecheck u seen) at before =
    no_more c s (SendPushRecheck u seen) _ (rw (at, at) (none_if (nat_eq c.push.next 0) (ends (seat c.seats s) Answer.Sent)
    (goes_on (seat c.seats s) (PushedHandoffExchange (Pusher.Sender u) seen)) refl refl))
still_at c s (SendWakeStore u) at before = no_more c s (SendWakeStore u) _ (rw (at, at) refl)
still_at c s (PushLoad pusher) at before = λ t some. (rw (at, at) at some, refl)
still_at c s (LinkStore pusher seen) at before = λ t some. (rw (at, at) at some, refl)
still_at c s (PushExchange pusher seen) at before =
    elim (cases_Bool (same_link c.push seen)) [
      | inl same ↦ no_more c s (PushExchange pusher seen) _ (rw (at, at, same) refl)
      | inr other ↦ λ t some. (rw (at, at, other) at some, rw other refl)
    ]
still_at c s (PushedHandoffLoad pusher) at before =
    no_more c s (PushedHandoffLoad pusher) _ (rw (at, at) (none_if (nat_eq c.handoff.seat 0) (pushed (seat c.seats s) pusher)
    (goes_on (seat c.seats s) (found_posted pusher c.handoff))
    (of_pushed (seat c.seats s) pusher before) (of_found_posted pusher c.handoff before)))
still_at c s (PushedHandoffExchange pusher seen) at before =
    no_more c s (PushedHandoffExchange pusher seen) _ (rw (at, at) (none_if (same_handoff c.handoff seen)
    (goes_on (seat c.seats s) (take (carrier_of pusher) s (oldest c.popped))) (pushed (seat c.seats s) pusher)
    (of_take pusher s (oldest c.popped) before) (of_pushed (seat c.seats s) pusher before)))
still_at c s (TakeClearHead carrier) at before =
    no_more c s (TakeClearHead carrier) _ (rw (at, at) (of_cleared carrier c.push.next before))
still_at c s (TakeLinkLoad carrier next) at before =
    let found = link c.links next in
    no_more c s (TakeLinkLoad carrier next) _ (rw (at, at) (none_at (nat_eq found.next 0) (serves carrier s (loaded next found))
    (TakeLinkLoad carrier found.next) (of_serves carrier s (loaded next found) before) refl))
still_at c s (GrantWakeStore carrier r) at before =
    no_more c s (GrantWakeStore carrier r) _ (rw (at, at) (of_granted (seat c.seats s) carrier r before))
still_at c s _ at before = absurd (false≢true before)

pub still_pushes : (c : Core) (s : ℕ) → sends_at (seat c.seats s).point ≡ true
    → StillPushes c s (seat c.seats s).point (to_push (stepped c s).seat.point)
still_pushes c s before = still_at c s (seat c.seats s).point refl before

-- a step of a send pushes either no record, or one, for the target of the send
abbrev pub PushesOne : Core → ℕ → Point → Type 0
PushesOne c s p = (pushed_at_point c s p ≡ []) ⊎ ((x : Record) × (pushed_at_point c s p ≡ x ∷ []) × (to_push p ≡ Some x.seat))

pub pushes_one : (c : Core) (s : ℕ) (p : Point) → sends_at p ≡ true → PushesOne c s p
pushes_one c s (PushExchange Pusher.Locker seen) before = absurd (false≢true before)
pushes_one c s (PushExchange (Pusher.Sender t) seen) before =
    elim (cases_Bool (same_link c.push seen)) [
      | inl same ↦ inr (record { seat = t; stamp = seen.stamp + 1 }, rw same refl, refl)
      | inr other ↦ inl (rw other refl)
    ]
pushes_one c s _ before = inl refl
