-- A send that has claimed its target stays at the points of such a send until it ends.
use Rattle.std.proofs.Common.{◌≡◌, ℕ, Bool, true, false, refl, if◌then◌else◌}
use Rattle.std.proofs.lemmas.Bool.{false≢true}
use Rattle.std.specs.Prelude.{Option, Some, None, nat_eq}
use Rattle.lfm_protocol.specs.declared.answers.Answer.{Answer}
use Rattle.lfm_protocol.specs.declared.points.Carrier.{Carrier}
use Rattle.lfm_protocol.specs.declared.points.Point.{Point}
use Rattle.lfm_protocol.specs.declared.points.Point.TheVariants.{Rest, SendCountAdd, SendPushRecheck, SendWakeStore, PushLoad, LinkStore, PushExchange, PushedHandoffLoad, PushedHandoffExchange, TakeClearHead, TakeLinkLoad, GrantWakeStore}
use Rattle.lfm_protocol.specs.declared.points.Pusher.{Pusher}
use Rattle.lfm_protocol.specs.declared.seats.SeatState.{SeatState}
use Rattle.lfm_words.specs.declared.handoffs.Handoff.{Handoff}
use Rattle.lfm_words.specs.declared.pop_lists.Record.{Record}
use Rattle.lfm_words.specs.Popped.{oldest}
use Rattle.lfm_protocol.specs.After.{same_link, same_handoff, pushed, granted, found_posted, carrier_of, serves, take, once_cleared, loaded}
use Rattle.lfm_protocol.specs.Begin.{Stepped, goes_on, ends}
use Rattle.lfm_protocol.specs.Core.{Core}
use Rattle.lfm_protocol.specs.Seats.{seat, link}
use Rattle.lfm_laws.proofs.lawful.bounds.Leaving.{stepped}
use Rattle.lfm_condvar_laws.proofs.Invariant.{is_sender, carries_for_send, sends_at}

sends_if : (b : Bool) (m n : Stepped) → sends_at m.seat.point ≡ true → sends_at n.seat.point ≡ true
    → sends_at (if b then m else n).seat.point ≡ true
sends_if true m n first second = first
sends_if false m n first second = second

point_if : (b : Bool) (p q : Point) → sends_at p ≡ true → sends_at q ≡ true → sends_at (if b then p else q) ≡ true
point_if true p q first second = first
point_if false p q first second = second

of_pushed : (x : SeatState) (pusher : Pusher) → is_sender pusher ≡ true → sends_at (pushed x pusher).seat.point ≡ true
of_pushed x Pusher.Locker sender = absurd (false≢true sender)
of_pushed x (Pusher.Sender t) sender = refl

of_granted : (x : SeatState) (carrier : Carrier) (r : Record) → carries_for_send carrier ≡ true
    → sends_at (granted x carrier r).seat.point ≡ true
of_granted x Carrier.Sender r sender = refl
of_granted x _ r sender = absurd (false≢true sender)

of_found_posted : (pusher : Pusher) (found : Handoff) → is_sender pusher ≡ true → sends_at (found_posted pusher found) ≡ true
of_found_posted Pusher.Locker found sender = absurd (false≢true sender)
of_found_posted (Pusher.Sender t) found sender = refl

of_serves : (carrier : Carrier) (s : ℕ) (r : Record) → carries_for_send carrier ≡ true → sends_at (serves carrier s r) ≡ true
of_serves Carrier.Sender s r sender = refl
of_serves _ s r sender = absurd (false≢true sender)

of_take : (pusher : Pusher) (s : ℕ) (first : Option Record) → is_sender pusher ≡ true
    → sends_at (take (carrier_of pusher) s first) ≡ true
of_take Pusher.Locker s first sender = absurd (false≢true sender)
of_take (Pusher.Sender t) s None sender = refl
of_take (Pusher.Sender t) s (Some r) sender = refl

of_cleared : (carrier : Carrier) (head : ℕ) → carries_for_send carrier ≡ true → sends_at (once_cleared carrier head) ≡ true
of_cleared Carrier.Sender head sender = refl
of_cleared _ head sender = absurd (false≢true sender)

sends_from : (c : Core) (s : ℕ) (p : Point) → (seat c.seats s).point ≡ p → sends_at p ≡ true
    → sends_at (stepped c s).seat.point ≡ true
sends_from c s Rest at before = rw (at, at) refl
sends_from c s (SendCountAdd t) at before =
    rw (at, at) (point_if (nat_eq c.count 0) (SendWakeStore t) (PushLoad (Pusher.Sender t)) refl refl)
sends_from c s (SendPushRecheck t seen) at before =
    rw (at, at) (sends_if (nat_eq c.push.next 0) (ends (seat c.seats s) Answer.Sent)
    (goes_on (seat c.seats s) (PushedHandoffExchange (Pusher.Sender t) seen)) refl refl)
sends_from c s (SendWakeStore t) at before = rw (at, at) refl
sends_from c s (PushLoad pusher) at before = rw (at, at) before
sends_from c s (LinkStore pusher seen) at before = rw (at, at) before
sends_from c s (PushExchange pusher seen) at before =
    rw (at, at) (point_if (same_link c.push seen) (PushedHandoffLoad pusher) (LinkStore pusher c.push) before before)
sends_from c s (PushedHandoffLoad pusher) at before =
    rw (at, at) (sends_if (nat_eq c.handoff.seat 0) (pushed (seat c.seats s) pusher)
    (goes_on (seat c.seats s) (found_posted pusher c.handoff))
    (of_pushed (seat c.seats s) pusher before) (of_found_posted pusher c.handoff before))
sends_from c s (PushedHandoffExchange pusher seen) at before =
    rw (at, at) (sends_if (same_handoff c.handoff seen) (goes_on (seat c.seats s) (take (carrier_of pusher) s (oldest c.popped)))
    (pushed (seat c.seats s) pusher)
    (of_take pusher s (oldest c.popped) before) (of_pushed (seat c.seats s) pusher before))
sends_from c s (TakeClearHead carrier) at before = rw (at, at) (of_cleared carrier c.push.next before)
sends_from c s (TakeLinkLoad carrier next) at before =
    let found = link c.links next in
    rw (at, at) (point_if (nat_eq found.next 0) (serves carrier s (loaded next found)) (TakeLinkLoad carrier found.next)
    (of_serves carrier s (loaded next found) before) before)
sends_from c s (GrantWakeStore carrier r) at before = rw (at, at) (of_granted (seat c.seats s) carrier r before)
sends_from c s _ at before = absurd (false≢true before)

pub stays_sending : (c : Core) (s : ℕ) → sends_at (seat c.seats s).point ≡ true → sends_at (stepped c s).seat.point ≡ true
stays_sending c s before = sends_from c s (seat c.seats s).point refl before
