-- By cases on the point: each step of a call makes the number of steps that are left decrease.
use Rattle.std.proofs.Common.{◌≡◌, ◌≢◌, ◌⊎◌, ℕ, ◌+◌, ◌-◌, ◌*◌, ◌^◌, ◌<◌, ◌≤◌, true, false, Option, Some, None, nat_eq, refl, sym, subst, ◌∙◌, arith, inl, inr, if◌then◌else◌}
use Rattle.std.proofs.lemmas.Bool.{cases_eq, ne_eqb, eq-eqb, false≢true}
use Rattle.lfm_model.specs.declared.answers.Unlocked.{Unlocked}
use Rattle.lfm_words.specs.declared.links.Link.{Link}
use Rattle.lfm_words.specs.declared.pop_lists.Record.{Record}
use Rattle.lfm_words.specs.declared.wakes.Wake.{Wake}
use Rattle.lfm_words.specs.declared.wakes.Wake.TheVariants.{Waiting, Grant}
use Rattle.lfm_protocol.specs.declared.kinds.Kind.{Kind}
use Rattle.lfm_protocol.specs.declared.points.Carrier.{Carrier}
use Rattle.lfm_protocol.specs.declared.points.Point.{Point}
use Rattle.lfm_protocol.specs.declared.points.Point.TheVariants.{Rest, Asleep, LockCountAdd, LockOwnerLoad, TryCountExchange, TryOwnerLoad, TryHandoffLoad, TryHandoffExchange, SendWakeExchange, SendCountAdd, SendPushRecheck, PushLoad, PushExchange, PushedHandoffLoad, PushedHandoffExchange, ReleaseCountSubtract, ReleasePushRecheck, ReleaseHandoffExchange, TakeClearHead, TakeLinkLoad, GrantWakeStore, ReceiveWakeLoad}
use Rattle.lfm_protocol.specs.declared.points.Pusher.{Pusher}
use Rattle.lfm_protocol.specs.declared.points.Releaser.{Releaser}
use Rattle.lfm_protocol.specs.declared.points.Releaser.TheVariants.{Unlocker, Waiter}
use Rattle.lfm_protocol.specs.declared.points.Sleeper.{Sleeper}
use Rattle.lfm_protocol.specs.declared.seats.SeatState.{SeatState}
use Rattle.lfm_protocol.specs.After.{same_link, same_handoff, releases, pushed, granted, receives, claims, carrier_of, take, serves, once_cleared, busy, found_posted, loaded}
use Rattle.lfm_protocol.specs.Begin.{Stepped, goes_on}
use Rattle.lfm_protocol.specs.Points.{kind}
use Rattle.lfm_protocol.specs.Room.{PopFits}
use Rattle.lfm_laws.specs.steady.Steady.{IsSeen}
use Rattle.lfm_laws.specs.steady.Views.{waits_on}
use Rattle.lfm_laws.specs.table.Words.{stepped_by, handoff_of, wake_of, link_of}
use Rattle.lfm_mutex.specs.calls.Runs.{left, clearing, collecting, granting, weight}
use Rattle.lfm_table.specs.Rule.{CollectsWithin}
use Rattle.lfm_table.proofs.tables.StepFacts.{made_of}
use Rattle.lfm_mutex.proofs.runs.Tests.{if_both, if_known}

-- the point after a step has less weight than w
abbrev Lighter : ℕ → ℕ → ℕ → Point → Type 0
Lighter n k w p = weight n k p < w

abbrev Falls : ℕ → ℕ → ℕ → Stepped → Type 0
Falls n k w st = weight n k st.seat.point < w

falls_releases : (n k : ℕ) (x : SeatState) (r : Releaser) (answer : Unlocked) → Falls n k (1 + waits_on r) (releases x r answer)
falls_releases n k x Unlocker answer = omega arith
falls_releases n k x Waiter answer = omega arith

falls_pushed : (n k : ℕ) (x : SeatState) (pusher : Pusher) → Falls n k 1 (pushed x pusher)
falls_pushed n k x Pusher.Locker = omega arith
falls_pushed n k x (Pusher.Sender t) = omega arith

falls_granted : (n k : ℕ) (x : SeatState) (carrier : Carrier) (oldest : Record) → Falls n k (granting carrier) (granted x carrier oldest)
falls_granted n k x (Carrier.Releaser r) oldest = falls_releases n k x r (Unlocked.Granted oldest.seat)
falls_granted n k x (Carrier.Reclaimer r) oldest = falls_releases n k x r (Unlocked.Granted oldest.seat)
falls_granted n k x _ oldest = omega arith

weight_serves : (n k : ℕ) (carrier : Carrier) (s : ℕ) (r : Record) → weight n k (serves carrier s r) ≤ granting carrier
weight_serves n k Carrier.Locker s r = if_both (λ (q : Point). weight n k q ≤ 2) (nat_eq r.seat s) _ _ (omega arith) (omega arith)
weight_serves n k _ s r = omega arith

weight_take : (n k w : ℕ) (carrier : Carrier) (s : ℕ) (o : Option Record) → clearing n carrier < w → granting carrier < w → weight n k (take carrier s o) < w
weight_take n k w carrier s None less some = less
weight_take n k w carrier s (Some r) less some = let h = weight_serves n k carrier s r in omega (arith, h, some)

weight_cleared : (n k : ℕ) (carrier : Carrier) (head : ℕ) → weight n k (once_cleared carrier head) < clearing n carrier
weight_cleared n k (Carrier.Releaser u) head = if_both (Lighter n k (n + 5 + waits_on u)) (nat_eq head 0) _ _ (omega arith) (omega arith)
weight_cleared n k _ head = omega arith

weight_found_posted : (n k : ℕ) (pusher : Pusher) (d t : ℕ) → weight n k (found_posted pusher (record { seat = d; post = t })) < n + 7
weight_found_posted n k Pusher.Locker d t = omega arith
weight_found_posted n k (Pusher.Sender u) d t = omega arith

carrier_clears : (n : ℕ) (pusher : Pusher) → clearing n (carrier_of pusher) < n + 5
carrier_clears n Pusher.Locker = omega arith
carrier_clears n (Pusher.Sender t) = omega arith

carrier_grants : (n : ℕ) (pusher : Pusher) → granting (carrier_of pusher) < n + 5
carrier_grants n Pusher.Locker = omega arith
carrier_grants n (Pusher.Sender t) = omega arith

falls_receives : (n k : ℕ) (x : SeatState) (sleeper : Sleeper) (w : Wake) → Falls n k 3 (receives x sleeper w)
falls_receives n k x sleeper (Grant stamp) = omega arith
falls_receives n k x sleeper _ = omega arith

falls_claims : (n k : ℕ) (x : SeatState) (t : ℕ) (w : Wake) → Falls n k (weight n k (SendWakeExchange t)) (claims x t w)
falls_claims n k x t Waiting = omega arith
falls_claims n k x t _ = omega arith

head_unit : (next : ℕ) → (if nat_eq next 0 then 0 else 1) ≤ 1
head_unit next = elim (cases_eq next 0) [ inl e ↦ rw (eq-eqb next 0 e) (omega arith) | inr e ↦ rw (ne_eqb next 0 e) (omega arith) ]

left_most : (l : Link) → left l ≤ 2 ^ 49 + 1
left_most l = let h = head_unit l.next in omega (arith, h)

left_later : (found old : Link) → old.stamp < found.stamp → old.stamp < 2 ^ 48 → left found < left old
left_later found old later small = let h = head_unit found.next in omega (arith, h, later, small)

left_emptied : (found old : Link) → found.stamp ≡ old.stamp → found.next ≡ 0 → old.next ≢ 0 → left found < left old
left_emptied found old same none some =
    let a : ◌≡◌ {A = ℕ} (if nat_eq found.next 0 then 0 else 1) 0 = rw (eq-eqb found.next 0 none) refl in
    let b : ◌≡◌ {A = ℕ} (if nat_eq old.next 0 then 0 else 1) 1 = rw (ne_eqb old.next 0 some) refl in
    omega (arith, a, b, same)

not_same : (found old : Link) → same_link found old ≡ false → found.stamp ≡ old.stamp → found.next ≢ old.next
not_same found old e same both = let t : same_link found old ≡ true = rw (eq-eqb found.stamp old.stamp same, eq-eqb found.next old.next both) refl in false≢true (sym e ∙ t)

-- after a failed push exchange the number is smaller
left_falls : (found old : Link) → same_link found old ≡ false → IsSeen found old → old.stamp < 2 ^ 48 → left found < left old
left_falls found old e is small =
    elim (cases_eq found.stamp old.stamp) [
      | inr other ↦ left_later found old (omega (arith, other, is.older)) small
      | inl same ↦ elim (is.same (sym same)) [
        | inl next ↦ absurd (not_same found old e same next)
        | inr none ↦ left_emptied found old same none (λ z. not_same found old e same (none ∙ sym z))
      ]
    ]

-- after a record was collected, fewer steps are left
weight_collects : (n k : ℕ) (carrier : Carrier) (next : ℕ) → k < n → CollectsWithin k n (TakeLinkLoad carrier next) → (collecting (n - (k + 1)) carrier < collecting (n - k) carrier) × (granting carrier < collecting (n - k) carrier)
weight_collects n k (Carrier.Releaser u) next room within = (omega (arith, room), omega (arith, within))
weight_collects n k (Carrier.Reclaimer u) next room within = (omega (arith, room), omega (arith, within))
weight_collects n k _ next room within = (omega (arith, room), omega (arith, room))

falls_at : (d t ps s m : ℕ) (o : Option Record) (n k k' : ℕ) (q : Point) → kind q ≢ None → PopFits k n (kind q) → CollectsWithin k n q → (k' ≡ k + 1 ⊎ (kind q ≢ Some Kind.LinkLoad))
    → ((pusher : Pusher) (old : Link) → q ≡ PushExchange pusher old → IsSeen (link_of m) old × (old.stamp < 2 ^ 48)) → weight n k' (stepped_by (made_of d t ps q) s m o).seat.point < weight n k q
falls_at d t ps s m o n k k' Rest some room within grows sees = absurd (some refl)
falls_at d t ps s m o n k k' (Asleep sleeper) some room within grows sees = absurd (some refl)
falls_at d t ps s m o n k k' LockCountAdd some room within grows sees = if_both (Lighter n k' (weight n k LockCountAdd)) (nat_eq m 0) _ _ (omega arith) (omega arith)
falls_at d t ps s m o n k k' LockOwnerLoad some room within grows sees = if_both (Lighter n k' (weight n k LockOwnerLoad)) (nat_eq m s) _ _ (omega arith) (omega arith)
falls_at d t ps s m o n k k' TryCountExchange some room within grows sees = if_both (Lighter n k' 6) (nat_eq m 0) _ _ (omega arith) (omega arith)
falls_at d t ps s m o n k k' TryOwnerLoad some room within grows sees = if_both (Falls n k' 5) (nat_eq m s) _ (goes_on (made_of d t ps TryOwnerLoad) TryHandoffLoad) (omega arith) (omega arith)
falls_at d t ps s m o n k k' TryHandoffLoad some room within grows sees = if_both (Falls n k' 4) (nat_eq (handoff_of m).seat 0) (busy (made_of d t ps TryHandoffLoad)) _ (omega arith) (omega arith)
falls_at d t ps s m o n k k' (TryHandoffExchange old) some room within grows sees = if_both (Falls n k' 3) (same_handoff (handoff_of m) old) _ (busy (made_of d t ps (TryHandoffExchange old))) (omega arith) (omega arith)
falls_at d t ps s m o n k k' (SendWakeExchange u) some room within grows sees = falls_claims n k' (made_of d t ps (SendWakeExchange u)) u (wake_of m)
falls_at d t ps s m o n k k' (SendCountAdd u) some room within grows sees = if_both (Lighter n k' (weight n k (SendCountAdd u))) (nat_eq m 0) _ _ (omega arith) (omega arith)
falls_at d t ps s m o n k k' (SendPushRecheck u old) some room within grows sees = if_both (Falls n k' (n + 6)) (nat_eq (link_of m).next 0) _ (goes_on (made_of d t ps (SendPushRecheck u old)) (PushedHandoffExchange (Pusher.Sender u) old)) (omega arith) (omega arith)
falls_at d t ps s m o n k k' (PushLoad pusher) some room within grows sees = let h = left_most (link_of m) in omega (arith, h)
falls_at d t ps s m o n k k' (PushExchange pusher old) some room within grows sees =
    if_known (Lighter n k' (n + 2 * left old + 8)) (same_link (link_of m) old) _ _ (λ _. omega arith) (λ e. let is = sees pusher old refl in let h = left_falls (link_of m) old e is.0 is.1 in omega (arith, h))
falls_at d t ps s m o n k k' (PushedHandoffLoad pusher) some room within grows sees =
    if_both (Falls n k' (n + 7)) (nat_eq (handoff_of m).seat 0) (pushed (made_of d t ps (PushedHandoffLoad pusher)) pusher) _ (let h = falls_pushed n k' (made_of d t ps (PushedHandoffLoad pusher)) pusher in omega (arith, h)) (weight_found_posted n k' pusher (handoff_of m).seat (handoff_of m).post)
falls_at d t ps s m o n k k' (PushedHandoffExchange pusher old) some room within grows sees =
    if_both (Falls n k' (n + 5)) (same_handoff (handoff_of m) old) (goes_on (made_of d t ps (PushedHandoffExchange pusher old)) (take (carrier_of pusher) s o)) _
    (weight_take n k' (n + 5) (carrier_of pusher) s o (carrier_clears n pusher) (carrier_grants n pusher)) (let h = falls_pushed n k' (made_of d t ps (PushedHandoffExchange pusher old)) pusher in omega (arith, h))
falls_at d t ps s m o n k k' (ReleaseCountSubtract r) some room within grows sees =
    if_both (Falls n k' (n + 6 + waits_on r)) (nat_eq m 1) _ (goes_on (made_of d t ps (ReleaseCountSubtract r)) (take (Carrier.Releaser r) s o)) (let h = falls_releases n k' (made_of d t ps (ReleaseCountSubtract r)) r Unlocked.Free in omega (arith, h))
    (weight_take n k' (n + 6 + waits_on r) (Carrier.Releaser r) s o (omega arith) (omega arith))
falls_at d t ps s m o n k k' (ReleasePushRecheck r) some room within grows sees =
    if_both (Falls n k' (n + 3 + waits_on r)) (nat_eq (link_of m).next 0) _ (goes_on (made_of d t ps (ReleasePushRecheck r)) (ReleaseHandoffExchange r)) (let h = falls_releases n k' (made_of d t ps (ReleasePushRecheck r)) r Unlocked.Posted in omega (arith, h)) (omega arith)
falls_at d t ps s m o n k k' (ReleaseHandoffExchange r) some room within grows sees =
    if_both (Falls n k' (n + 2 + waits_on r)) (same_handoff (handoff_of m) (record { seat = s; post = ps })) (goes_on (made_of d t ps (ReleaseHandoffExchange r)) (take (Carrier.Reclaimer r) s o)) _
    (weight_take n k' (n + 2 + waits_on r) (Carrier.Reclaimer r) s o (omega arith) (omega arith)) (let h = falls_releases n k' (made_of d t ps (ReleaseHandoffExchange r)) r Unlocked.TakenOver in omega (arith, h))
falls_at d t ps s m o n k k' (TakeClearHead carrier) some room within grows sees = weight_cleared n k' carrier (link_of m).next
falls_at d t ps s m o n k k' (TakeLinkLoad carrier next) some room within grows sees =
    let less = weight_collects n k carrier next room within in
    if_both (Lighter n k' (collecting (n - k) carrier)) (nat_eq (link_of m).next 0) _ _ (let h = weight_serves n k' carrier s (loaded next (link_of m)) in omega (arith, h, less.1))
    (elim grows [ inl more ↦ subst (λ (j : ℕ). collecting (n - j) carrier < collecting (n - k) carrier) (sym more) less.0 | inr none ↦ absurd (none refl) ])
falls_at d t ps s m o n k k' (GrantWakeStore carrier oldest) some room within grows sees = falls_granted n k' (made_of d t ps (GrantWakeStore carrier oldest)) carrier oldest
falls_at d t ps s m o n k k' (ReceiveWakeLoad sleeper) some room within grows sees = falls_receives n k' (made_of d t ps (ReceiveWakeLoad sleeper)) sleeper (wake_of m)
falls_at d t ps s m o n k k' _ some room within grows sees = omega arith

pub falls : (x : SeatState) (s m : ℕ) (o : Option Record) (n k k' : ℕ) → kind x.point ≢ None → PopFits k n (kind x.point) → CollectsWithin k n x.point → (k' ≡ k + 1 ⊎ (kind x.point ≢ Some Kind.LinkLoad))
    → ((pusher : Pusher) (old : Link) → x.point ≡ PushExchange pusher old → IsSeen (link_of m) old × (old.stamp < 2 ^ 48)) → weight n k' (stepped_by x s m o).seat.point < weight n k x.point
falls x s m o n k k' some room within grows sees = falls_at x.depth x.takes x.posts s m o n k k' x.point some room within grows sees
