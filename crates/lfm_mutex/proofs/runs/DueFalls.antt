-- Each step lowers the number of steps due to its call by at least one, and a failed push adds two. So a call makes at most the
-- steps that were due to it, and two for each failure.
use Rattle.std.proofs.Common.{◌≡◌, ◌≢◌, ◌⊎◌, ℕ, ◌+◌, ◌-◌, ◌*◌, ◌<◌, ◌≤◌, Bool, true, false, Option, Some, None, nat_eq, refl, arith, inl, inr, if◌then◌else◌}
use Rattle.lfm_words.specs.declared.links.Link.{Link}
use Rattle.lfm_words.specs.declared.pop_lists.Record.{Record}
use Rattle.lfm_words.specs.declared.wakes.Wake.{Wake}
use Rattle.lfm_words.specs.declared.wakes.Wake.TheVariants.{Waiting}
use Rattle.lfm_words.specs.Popped.{oldest}
use Rattle.lfm_protocol.specs.declared.answers.Answer.{Answer}
use Rattle.lfm_protocol.specs.declared.kinds.Kind.{Kind}
use Rattle.lfm_protocol.specs.declared.points.Carrier.{Carrier}
use Rattle.lfm_protocol.specs.declared.points.Point.{Point}
use Rattle.lfm_protocol.specs.declared.points.Point.TheVariants.{LockCountAdd, LockOwnerLoad, SendWakeExchange, SendCountAdd, SendPushRecheck, PushLoad, LinkStore, PushExchange, PushedHandoffLoad, PushedHandoffExchange, TakeClearHead, TakeLinkLoad, GrantWakeStore}
use Rattle.lfm_protocol.specs.declared.points.Pusher.{Pusher}
use Rattle.lfm_protocol.specs.declared.points.Releaser.{Releaser}
use Rattle.lfm_protocol.specs.declared.points.Releaser.TheVariants.{Unlocker, Waiter}
use Rattle.lfm_protocol.specs.declared.seats.SeatState.{SeatState}
use Rattle.lfm_protocol.specs.After.{same_link, same_handoff, pushed, claims, take, serves, found_posted, loaded}
use Rattle.lfm_protocol.specs.Begin.{Stepped, goes_on, ends}
use Rattle.lfm_protocol.specs.Points.{kind}
use Rattle.lfm_protocol.specs.Room.{PopFits}
use Rattle.lfm_laws.specs.steady.Views.{waits_on}
use Rattle.lfm_laws.specs.table.Words.{stepped_by, handoff_of, wake_of, link_of}
use Rattle.lfm_table.specs.Rule.{CollectsWithin}
use Rattle.lfm_table.proofs.tables.StepFacts.{made_of}
use Rattle.lfm_mutex.specs.calls.Due.{due}
use Rattle.lfm_mutex.specs.calls.FailedPushes.{failed_push}
use Rattle.lfm_mutex.specs.calls.Runs.{weight}
use Rattle.lfm_mutex.proofs.runs.Running.{Walks}
use Rattle.lfm_mutex.proofs.runs.Tests.{if_both}

-- No more is due than the weight

due-le : (n k : ℕ) (p : Point) → due n k p ≤ weight n k p
due-le n k (PushedHandoffExchange Pusher.Locker old) = omega arith
due-le n k (TakeClearHead Carrier.Locker) = omega arith
due-le n k (TakeLinkLoad Carrier.Locker next) = omega arith
due-le n k (GrantWakeStore Carrier.Locker oldest) = omega arith
due-le n k _ = omega arith

-- The steps of a push, and the points that they lead to

abbrev Below : ℕ → ℕ → ℕ → Stepped → Type 0
Below n k w st = due n k st.seat.point < w

-- fewer than w steps are due at this point
abbrev DueBelow : ℕ → ℕ → ℕ → Point → Type 0
DueBelow n k w p = due n k p < w

below_claims : (n k : ℕ) (x : SeatState) (t : ℕ) (w : Wake) → Below n k (due n k (SendWakeExchange t)) (claims x t w)
below_claims n k x t Waiting = omega arith
below_claims n k x t _ = omega arith

below_pushed : (n k : ℕ) (x : SeatState) (pusher : Pusher) → Below n k 1 (pushed x pusher)
below_pushed n k x Pusher.Locker = omega arith
below_pushed n k x (Pusher.Sender t) = omega arith

due_found_posted : (n k : ℕ) (pusher : Pusher) (d t : ℕ) → due n k (found_posted pusher (record { seat = d; post = t })) < n + 4
due_found_posted n k Pusher.Locker d t = omega arith
due_found_posted n k (Pusher.Sender u) d t = omega arith

due_serves : (n k s : ℕ) (r : Record) → due n k (serves Carrier.Locker s r) < 2
due_serves n k s r = if_both (DueBelow n k 2) (nat_eq r.seat s) _ _ (omega arith) (omega arith)

due_take : (n k s : ℕ) (o : Option Record) → due n k (take Carrier.Locker s o) < n + 3
due_take n k s None = omega arith
due_take n k s (Some r) = let h = due_serves n k s r in omega (arith, h)

due_sends : (n k s : ℕ) (o : Option Record) → due n k (take Carrier.Sender s o) < n + 2
due_sends n k s None = omega arith
due_sends n k s (Some r) = omega arith

-- a push exchange leads to the load of the handoff word, or, if it failed, to storing the link once more
due_exchanged : (n k : ℕ) (b : Bool) (pusher : Pusher) (found : Link) → due n k (if b then PushedHandoffLoad pusher else LinkStore pusher found) < n + 5 + 2 * (if b then 0 else 1)
due_exchanged n k true pusher found = omega arith
due_exchanged n k false pusher found = omega arith

due_at : (d t ps s m : ℕ) (o : Option Record) (n k k' : ℕ) (q : Point) → kind q ≢ None → PopFits k n (kind q) → CollectsWithin k n q → (k' ≡ k + 1 ⊎ (kind q ≢ Some Kind.LinkLoad))
    → weight n k' (stepped_by (made_of d t ps q) s m o).seat.point < weight n k q → due n k' (stepped_by (made_of d t ps q) s m o).seat.point < due n k q + 2 * failed_push m q
due_at d t ps s m o n k k' LockCountAdd some room within grows less = if_both (DueBelow n k' _) (nat_eq m 0) _ _ (omega arith) (omega arith)
due_at d t ps s m o n k k' LockOwnerLoad some room within grows less = if_both (DueBelow n k' _) (nat_eq m s) _ _ (omega arith) (omega arith)
due_at d t ps s m o n k k' (SendWakeExchange u) some room within grows less = let h = below_claims n k' (made_of d t ps (SendWakeExchange u)) u (wake_of m) in omega (arith, h)
due_at d t ps s m o n k k' (SendCountAdd u) some room within grows less = if_both (DueBelow n k' _) (nat_eq m 0) _ _ (omega arith) (omega arith)
due_at d t ps s m o n k k' (SendPushRecheck u old) some room within grows less = let h = if_both (Below n k' (n + 3)) (nat_eq (link_of m).next 0) (ends (made_of d t ps (SendPushRecheck u old)) Answer.Sent) (goes_on (made_of d t ps (SendPushRecheck u old)) (PushedHandoffExchange (Pusher.Sender u) old)) (omega arith) (omega arith) in omega (arith, h)
due_at d t ps s m o n k k' (PushLoad pusher) some room within grows less = omega arith
due_at d t ps s m o n k k' (LinkStore pusher old) some room within grows less = omega arith
due_at d t ps s m o n k k' (PushExchange pusher old) some room within grows less = due_exchanged n k' (same_link (link_of m) old) pusher (link_of m)
due_at d t ps s m o n k k' (PushedHandoffLoad pusher) some room within grows less =
    let h = if_both (Below n k' (n + 4)) (nat_eq (handoff_of m).seat 0) (pushed (made_of d t ps (PushedHandoffLoad pusher)) pusher) (goes_on (made_of d t ps (PushedHandoffLoad pusher)) (found_posted pusher (handoff_of m))) (let h = below_pushed n k' (made_of d t ps (PushedHandoffLoad pusher)) pusher in omega (arith, h)) (due_found_posted n k' pusher (handoff_of m).seat (handoff_of m).post) in
    omega (arith, h)
due_at d t ps s m o n k k' (PushedHandoffExchange Pusher.Locker old) some room within grows less =
    let h = if_both (Below n k' (n + 3)) (same_handoff (handoff_of m) old) (goes_on (made_of d t ps (PushedHandoffExchange Pusher.Locker old)) (take Carrier.Locker s o)) (pushed (made_of d t ps (PushedHandoffExchange Pusher.Locker old)) Pusher.Locker) (due_take n k' s o) (omega arith) in omega (arith, h)
due_at d t ps s m o n k k' (PushedHandoffExchange (Pusher.Sender u) old) some room within grows less =
    let h = if_both (Below n k' (n + 2)) (same_handoff (handoff_of m) old) (goes_on (made_of d t ps (PushedHandoffExchange (Pusher.Sender u) old)) (take Carrier.Sender s o)) (pushed (made_of d t ps (PushedHandoffExchange (Pusher.Sender u) old)) (Pusher.Sender u)) (due_sends n k' s o) (omega arith) in omega (arith, h)
due_at d t ps s m o n k k' (TakeClearHead Carrier.Locker) some room within grows less = omega arith
due_at d t ps s m o n k k' (TakeClearHead Carrier.Sender) some room within grows less = omega arith
due_at d t ps s m o n k k' (TakeLinkLoad Carrier.Locker next) some room within grows less =
    elim grows [
      | inl more ↦ let h = if_both (DueBelow n k' (n - k + 1)) (nat_eq (link_of m).next 0) (serves Carrier.Locker s (loaded next (link_of m))) (TakeLinkLoad Carrier.Locker (link_of m).next) (let z = due_serves n k' s (loaded next (link_of m)) in omega (arith, z, room)) (omega (arith, more, room)) in omega (arith, h)
      | inr none ↦ absurd (none refl)
    ]
due_at d t ps s m o n k k' (TakeLinkLoad Carrier.Sender next) some room within grows less =
    elim grows [
      | inl more ↦ let h = if_both (DueBelow n k' (n - k)) (nat_eq (link_of m).next 0) (GrantWakeStore Carrier.Sender (loaded next (link_of m))) (TakeLinkLoad Carrier.Sender (link_of m).next) (omega (arith, within)) (omega (arith, more, room)) in omega (arith, h)
      | inr none ↦ absurd (none refl)
    ]
due_at d t ps s m o n k k' (GrantWakeStore Carrier.Locker r) some room within grows less = omega arith
due_at d t ps s m o n k k' (GrantWakeStore Carrier.Sender r) some room within grows less = omega arith
due_at d t ps s m o n k k' q some room within grows less = let h = due-le n k' (stepped_by (made_of d t ps q) s m o).seat.point in omega (arith, h, less)

pub due_falls : (x : SeatState) (s m : ℕ) (o : Option Record) (n k k' : ℕ) → kind x.point ≢ None → Walks n k k' x.point → weight n k' (stepped_by x s m o).seat.point < weight n k x.point
    → due n k' (stepped_by x s m o).seat.point < due n k x.point + 2 * failed_push m x.point
due_falls x s m o n k k' some walks less = due_at x.depth x.takes x.posts s m o n k k' x.point some walks.room walks.within walks.grows less

waits_most : (r : Releaser) → waits_on r ≤ 1
waits_most Unlocker = omega arith
waits_most Waiter = omega arith

-- By cases on the point: at most n + 9 steps are due.
pub due-most : (n k : ℕ) (p : Point) → due n k p ≤ n + 9
due-most n k (PushedHandoffExchange Pusher.Locker old) = omega arith
due-most n k (TakeClearHead Carrier.Locker) = omega arith
due-most n k (TakeLinkLoad Carrier.Locker next) = omega arith
due-most n k (GrantWakeStore Carrier.Locker oldest) = omega arith
due-most n k _ = omega (arith, waits_most)
