-- What each step of a call leads to, by cases on the seat's point: the same call goes on or ends, no step leads to a point at
-- which a send or a release starts, the seat acquires the mutex only by its owner store, only the exchange of a send answers
-- NotWaiting, and how the step changes the seat's own state.
use Rattle.std.proofs.Common.{◌≡◌, ◌≢◌, ◌⊎◌, ℕ, ◌+◌, ◌-◌, ◌<◌, Bool, true, false, Option, Some, None, nat_eq, refl, sym, ap, ◌∙◌, arith, inl, inr, if◌then◌else◌}
use Rattle.std.proofs.lemmas.Bool.{cases_eq, ne_eqb, eq-eqb, false≢true}
use Rattle.lfm_model.specs.declared.answers.How.{How}
use Rattle.lfm_model.specs.declared.answers.Unlocked.{Unlocked}
use Rattle.lfm_model.specs.declared.refusals.Refusal.{Refusal}
use Rattle.lfm_words.specs.declared.handoffs.Handoff.{Handoff}
use Rattle.lfm_words.specs.declared.pop_lists.Record.{Record}
use Rattle.lfm_words.specs.declared.wakes.Wake.{Wake}
use Rattle.lfm_words.specs.declared.wakes.Wake.TheVariants.{Waiting, Grant}
use Rattle.lfm_protocol.specs.declared.answers.Answer.{Answer}
use Rattle.lfm_protocol.specs.declared.answers.Turn.{Turn}
use Rattle.lfm_protocol.specs.declared.answers.Turn.TheVariants.{Refused}
use Rattle.lfm_protocol.specs.declared.answers.Why.{Why}
use Rattle.lfm_protocol.specs.declared.kinds.Kind.{Kind}
use Rattle.lfm_protocol.specs.declared.points.Carrier.{Carrier}
use Rattle.lfm_protocol.specs.declared.points.Entrant.{Entrant}
use Rattle.lfm_protocol.specs.declared.points.Point.{Point}
use Rattle.lfm_protocol.specs.declared.points.Point.TheVariants.{Rest, Asleep, LockCountAdd, LockOwnerLoad, LockCountSubtract, TryCountExchange, TryOwnerLoad, TryHandoffLoad, TryHandoffExchange, TryCountAdd, SendWakeExchange, SendCountAdd, SendPushRecheck, SendWakeStore, PushLoad, LinkStore, PushExchange, PushedHandoffLoad, PushedHandoffExchange, ReleaseOwnerStore, ReleaseCountSubtract, ReleaseHandoffStore, ReleasePushRecheck, ReleaseHandoffExchange, WaitWakeStore, TakeClearHead, TakeLinkLoad, GrantWakeStore, EnterOwnerStore, ReceiveWakeLoad, ReceiveWakeStore}
use Rattle.lfm_protocol.specs.declared.points.Pusher.{Pusher}
use Rattle.lfm_protocol.specs.declared.points.Releaser.{Releaser}
use Rattle.lfm_protocol.specs.declared.points.Releaser.TheVariants.{Unlocker, Waiter}
use Rattle.lfm_protocol.specs.declared.points.Sleeper.{Sleeper}
use Rattle.lfm_protocol.specs.declared.seats.SeatState.{SeatState}
use Rattle.lfm_protocol.specs.After.{same_link, same_handoff, releases, pushed, receives, claims, carrier_of, take, serves, once_cleared, busy, found_posted, loaded, how_granted}
use Rattle.lfm_protocol.specs.Begin.{Stepped, goes_on, ends}
use Rattle.lfm_protocol.specs.Points.{kind}
use Rattle.lfm_laws.specs.steady.Steady.{DepthAt, DepthOfPusher}
use Rattle.lfm_laws.specs.table.Words.{stepped_by, handoff_of, wake_of, link_of}
use Rattle.lfm_mutex.specs.calls.Runs.{Errand, locking, trying, releasing, sending, nothing, pushes, carries_for, errand, IsTurn, how_held, is_release}
use Rattle.lfm_mutex.specs.calls.Sight.{Concludes, StillAt, IsLeft}
use Rattle.lfm_table.proofs.tables.StepFacts.{made_of}
use Rattle.lfm_mutex.proofs.runs.Tests.{if_both, if_known}

abbrev pub is_send : Point → Bool
is_send (SendWakeExchange t) = true
is_send _ = false

-- points at which a call starts and to which no step leads: the exchange of a send, and the store that ends a hold
abbrev is_first : Point → Bool
is_first (SendWakeExchange t) = true
is_first (ReleaseOwnerStore releaser) = true
is_first _ = false

-- how a seat acquires the mutex by the step at this point, if it does
abbrev pub how_at : Point → Option How
how_at (EnterOwnerStore entrant how) = Some how
how_at _ = None

abbrev pub is_not_waiting : Turn → Bool
is_not_waiting (Refused (Why.By Refusal.NotWaiting)) = true
is_not_waiting _ = false

-- the owner word names the seat exactly if the seat holds
abbrev pub OwnerTold : SeatState → ℕ → ℕ → Type 0
OwnerTold x s n = kind x.point ≡ Some Kind.OwnerLoad → (n ≡ s → 0 < x.depth) × (0 < x.depth → n ≡ s)

pub is_s : (n s : ℕ) → nat_eq n s ≡ true → n ≡ s
is_s n s e = elim (cases_eq n s) [ inl z ↦ z | inr other ↦ absurd (false≢true (sym (ne_eqb n s other) ∙ e)) ]

pub not_s : (n s : ℕ) → nat_eq n s ≡ false → n ≢ s
not_s n s e z = false≢true (sym e ∙ eq-eqb n s z)

less_one : (t : ℕ) → ((t - 1) + 1 ≡ t) ⊎ (t ≡ 0)
less_one t = elim (cases_eq t 0) [ inl z ↦ inr z | inr n ↦ inl (omega (arith, n)) ]

-- The points to which a step goes on

-- a call of this errand goes on at this point
abbrev Next : Errand → Point → Type 0
Next e q = (errand q ≡ e) × (is_first q ≡ false) × StillAt q

next_serves : (carrier : Carrier) (s : ℕ) (r : Record) → Next (carries_for carrier) (serves carrier s r)
next_serves Carrier.Locker s r = if_both (Next locking) (nat_eq r.seat s) _ _ (refl, refl, tt) (refl, refl, tt)
next_serves _ s r = (refl, refl, tt)

next_take : (carrier : Carrier) (s : ℕ) (o : Option Record) → Next (carries_for carrier) (take carrier s o)
next_take carrier s None = (refl, refl, tt)
next_take carrier s (Some r) = next_serves carrier s r

next_taken : (pusher : Pusher) (s : ℕ) (o : Option Record) → Next (pushes pusher) (take (carrier_of pusher) s o)
next_taken Pusher.Locker s o = next_take Carrier.Locker s o
next_taken (Pusher.Sender t) s o = next_take Carrier.Sender s o

next_cleared : (carrier : Carrier) (head : ℕ) → Next (carries_for carrier) (once_cleared carrier head)
next_cleared (Carrier.Releaser u) head = if_both (Next (releasing u)) (nat_eq head 0) _ _ (refl, refl, tt) (refl, refl, tt)
next_cleared _ head = (refl, refl, tt)

next_posted : (pusher : Pusher) (found : Handoff) → Next (pushes pusher) (found_posted pusher found)
next_posted Pusher.Locker found = (refl, refl, tt)
next_posted (Pusher.Sender u) found = (refl, refl, tt)

-- The steps

module _ (d t ps s n : ℕ) (o : Option Record) where
  abbrev stands : Point → SeatState
  stands q = made_of d t ps q

  -- what is known of a seat that makes the step at q, if that is not the store that ends a hold
  abbrev Known : Point → Type 0
  Known q = (kind q ≢ None) × (is_release q ≡ false) × DepthAt d q × OwnerTold (stands q) s n

  -- the step at q leads to this turn and state
  abbrev Leads : Point → Stepped → Type 0
  Leads q st =
      (kind q ≢ None → IsTurn (errand q) st.turn st.seat.point) × (is_first st.seat.point ≡ false) × (how_held st.turn ≡ how_at q) × (is_send q ≡ false → is_not_waiting st.turn ≡ false)
      × (Known q → Concludes (stands q) st.turn st.seat)

  goes : (q p : Point) → how_at q ≡ None → Next (errand q) p → Leads q (goes_on (stands q) p)
  goes q p none next = (λ _. next.0, next.1, sym none, λ _. refl, λ _. (refl, refl, λ _. next.2))

  goes_if : (q : Point) (b : Bool) (u v : Point) → how_at q ≡ None → Next (errand q) u → Next (errand q) v → Leads q (goes_on (stands q) (if b then u else v))
  goes_if q b u v none first second = goes q (if b then u else v) none (if_both (Next (errand q)) b u v first second)

  sent : (q : Point) → errand q ≡ sending → how_at q ≡ None → Leads q (ends (stands q) Answer.Sent)
  sent q is none = (λ _. sym is, refl, sym none, λ _. refl, λ _. (refl, refl, refl))

  refused : (q : Point) → errand q ≡ trying → how_at q ≡ None → (DepthAt d q → d ≡ 0) → Leads q (busy (stands q))
  refused q is none flat = (λ _. (sym is, refl), refl, sym none, λ _. refl, λ k. (flat k.2, flat k.2, less_one t, refl))

  released : (q : Point) (r : Releaser) (answer : Unlocked) → errand q ≡ releasing r → how_at q ≡ None → IsLeft answer → Leads q (releases (stands q) r answer)
  released q Unlocker answer is none left = (λ _. sym is, refl, sym none, λ _. refl, λ _. (refl, refl, refl, left))
  released q Waiter answer is none left = goes q (WaitWakeStore answer) none (sym is, refl, left)

  queued : (q : Point) (pusher : Pusher) → errand q ≡ pushes pusher → how_at q ≡ None → (DepthAt d q → DepthOfPusher d pusher) → Leads q (pushed (stands q) pusher)
  queued q Pusher.Locker is none flat = (λ _. sym is, refl, sym none, λ _. refl, λ k. (flat k.2, flat k.2, refl, refl, refl))
  queued q (Pusher.Sender u) is none flat = sent q is none

  depth_of : (pusher : Pusher) → d ≡ 0 → DepthOfPusher d pusher
  depth_of Pusher.Locker flat = flat
  depth_of (Pusher.Sender u) flat = omega (arith, flat)

  claimed : (u : ℕ) (w : Wake) → Leads (SendWakeExchange u) (claims (stands (SendWakeExchange u)) u w)
  claimed u Waiting = goes (SendWakeExchange u) (SendCountAdd u) refl (refl, refl, tt)
  claimed u _ = (λ _. (refl, refl), refl, refl, λ other. absurd (false≢true (sym other)), λ _. (refl, refl, refl))

  received : (sleeper : Sleeper) (w : Wake) → Leads (ReceiveWakeLoad sleeper) (receives (stands (ReceiveWakeLoad sleeper)) sleeper w)
  received sleeper (Grant stamp) = goes (ReceiveWakeLoad sleeper) (ReceiveWakeStore stamp) refl (refl, refl, tt)
  received sleeper _ = (λ _. refl, refl, refl, λ _. refl, λ _. (refl, refl, refl, refl))

  leads_at : (q : Point) → Leads q (stepped_by (stands q) s n o)
  leads_at Rest = (λ some. absurd (some refl), refl, refl, λ _. refl, λ k. absurd (k.0 refl))
  leads_at (Asleep sleeper) = (λ some. absurd (some refl), refl, refl, λ _. refl, λ k. absurd (k.0 refl))
  leads_at LockCountAdd = goes_if LockCountAdd (nat_eq n 0) _ _ refl (refl, refl, tt) (refl, refl, tt)
  leads_at LockOwnerLoad = goes_if LockOwnerLoad (nat_eq n s) _ _ refl (refl, refl, tt) (refl, refl, tt)
  leads_at LockCountSubtract = (λ _. refl, refl, refl, λ _. refl, λ k. (k.2.0, refl, refl, refl, refl))
  leads_at TryCountExchange = goes_if TryCountExchange (nat_eq n 0) _ _ refl (refl, refl, tt) (refl, refl, tt)
  leads_at TryOwnerLoad =
      if_known (Leads TryOwnerLoad) (nat_eq n s) _ (goes_on (stands TryOwnerLoad) TryHandoffLoad) (λ e. (λ _. refl, refl, refl, λ _. refl, λ k. ((k.3 refl).0 (is_s n s e), refl, refl, refl, refl)))
      (λ _. goes TryOwnerLoad TryHandoffLoad refl (refl, refl, tt))
  leads_at TryHandoffLoad =
      if_both (Leads TryHandoffLoad) (nat_eq (handoff_of n).seat 0) (busy (stands TryHandoffLoad)) _ (refused TryHandoffLoad refl refl (λ flat. flat)) (goes TryHandoffLoad (TryHandoffExchange (handoff_of n)) refl (refl, refl, tt))
  leads_at (TryHandoffExchange old) =
      if_both (Leads (TryHandoffExchange old)) (same_handoff (handoff_of n) old) _ (busy (stands (TryHandoffExchange old))) (goes (TryHandoffExchange old) TryCountAdd refl (refl, refl, tt)) (refused (TryHandoffExchange old) refl refl (λ flat. flat))
  leads_at TryCountAdd = goes TryCountAdd (EnterOwnerStore Entrant.Trier How.Free) refl (refl, refl, tt)
  leads_at (SendWakeExchange u) = claimed u (wake_of n)
  leads_at (SendCountAdd u) = goes_if (SendCountAdd u) (nat_eq n 0) _ _ refl (refl, refl, tt) (refl, refl, tt)
  leads_at (SendPushRecheck u old) =
      if_both (Leads (SendPushRecheck u old)) (nat_eq (link_of n).next 0) (ends (stands (SendPushRecheck u old)) Answer.Sent) _ (sent (SendPushRecheck u old) refl refl)
      (goes (SendPushRecheck u old) (PushedHandoffExchange (Pusher.Sender u) old) refl (refl, refl, tt))
  leads_at (SendWakeStore u) = sent (SendWakeStore u) refl refl
  leads_at (PushLoad pusher) = goes (PushLoad pusher) (LinkStore pusher (link_of n)) refl (refl, refl, tt)
  leads_at (LinkStore pusher old) = goes (LinkStore pusher old) (PushExchange pusher old) refl (refl, refl, tt)
  leads_at (PushExchange pusher old) = goes_if (PushExchange pusher old) (same_link (link_of n) old) _ _ refl (refl, refl, tt) (refl, refl, tt)
  leads_at (PushedHandoffLoad pusher) = let q = PushedHandoffLoad pusher in
      if_both (Leads q) (nat_eq (handoff_of n).seat 0) (pushed (stands q) pusher) _ (queued q pusher refl refl (λ flat. flat)) (goes q (found_posted pusher (handoff_of n)) refl (next_posted pusher (handoff_of n)))
  leads_at (PushedHandoffExchange pusher old) = let q = PushedHandoffExchange pusher old in
      if_both (Leads q) (same_handoff (handoff_of n) old) (goes_on (stands q) (take (carrier_of pusher) s o)) (pushed (stands q) pusher) (goes q (take (carrier_of pusher) s o) refl (next_taken pusher s o)) (queued q pusher refl refl (depth_of pusher))
  leads_at (ReleaseOwnerStore r) = (λ _. refl, refl, refl, λ _. refl, λ k. absurd (false≢true (sym k.1)))
  leads_at (ReleaseCountSubtract r) = let q = ReleaseCountSubtract r in
      if_both (Leads q) (nat_eq n 1) (releases (stands q) r Unlocked.Free) (goes_on (stands q) (take (Carrier.Releaser r) s o)) (released q r Unlocked.Free refl refl tt) (goes q (take (Carrier.Releaser r) s o) refl (next_take (Carrier.Releaser r) s o))
  leads_at (ReleaseHandoffStore r) = (λ _. refl, refl, refl, λ _. refl, λ _. (refl, refl, λ _. tt))
  leads_at (ReleasePushRecheck r) = let q = ReleasePushRecheck r in
      if_both (Leads q) (nat_eq (link_of n).next 0) (releases (stands q) r Unlocked.Posted) (goes_on (stands q) (ReleaseHandoffExchange r)) (released q r Unlocked.Posted refl refl tt) (goes q (ReleaseHandoffExchange r) refl (refl, refl, tt))
  leads_at (ReleaseHandoffExchange r) = let q = ReleaseHandoffExchange r in
      if_both (Leads q) (same_handoff (handoff_of n) (record { seat = s; post = ps })) (goes_on (stands q) (take (Carrier.Reclaimer r) s o)) (releases (stands q) r Unlocked.TakenOver)
      (goes q (take (Carrier.Reclaimer r) s o) refl (next_take (Carrier.Reclaimer r) s o)) (released q r Unlocked.TakenOver refl refl tt)
  leads_at (WaitWakeStore answer) = (λ _. refl, refl, refl, λ _. refl, λ _. (refl, refl, refl, refl, λ left. left))
  leads_at (TakeClearHead carrier) = goes (TakeClearHead carrier) (once_cleared carrier (link_of n).next) refl (next_cleared carrier (link_of n).next)
  leads_at (TakeLinkLoad carrier next) = goes_if (TakeLinkLoad carrier next) (nat_eq (link_of n).next 0) _ _ refl (next_serves carrier s (loaded next (link_of n))) (refl, refl, tt)
  leads_at (GrantWakeStore Carrier.Locker oldest) = (λ _. refl, refl, refl, λ _. refl, λ k. (k.2, k.2, refl, refl, refl))
  leads_at (GrantWakeStore (Carrier.Releaser r) oldest) = released (GrantWakeStore (Carrier.Releaser r) oldest) r (Unlocked.Granted oldest.seat) refl refl tt
  leads_at (GrantWakeStore (Carrier.Reclaimer r) oldest) = released (GrantWakeStore (Carrier.Reclaimer r) oldest) r (Unlocked.Granted oldest.seat) refl refl tt
  leads_at (GrantWakeStore Carrier.Sender oldest) = sent (GrantWakeStore Carrier.Sender oldest) refl refl
  leads_at (EnterOwnerStore Entrant.Locker how) = (λ _. refl, refl, refl, λ _. refl, λ k. (k.2, refl, refl, refl))
  leads_at (EnterOwnerStore _ how) = (λ _. refl, refl, refl, λ _. refl, λ k. (k.2, refl, refl, refl))
  leads_at (ReceiveWakeLoad sleeper) = received sleeper (wake_of n)
  leads_at (ReceiveWakeStore stamp) = goes (ReceiveWakeStore stamp) (EnterOwnerStore Entrant.Receiver (how_granted stamp)) refl (refl, refl, tt)

module _ (x : SeatState) (s n : ℕ) (o : Option Record) where
  abbrev st : Stepped
  st = stepped_by x s n o

  leads : Leads x.depth x.takes x.posts s n o x.point st
  leads = leads_at x.depth x.takes x.posts s n o x.point

  pub turns_step : kind x.point ≢ None → IsTurn (errand x.point) st.turn st.seat.point
  turns_step = leads.0

  no_first : is_first st.seat.point ≡ false
  no_first = leads.1

  pub how_step : how_held st.turn ≡ how_at x.point
  how_step = leads.2

  pub answers_step : is_send x.point ≡ false → is_not_waiting st.turn ≡ false
  answers_step = leads.3

  pub concludes : kind x.point ≢ None → is_release x.point ≡ false → DepthAt x.depth x.point → OwnerTold x s n → Concludes x st.turn st.seat
  concludes some keeps deep told = leads.4 (some, keeps, deep, told)

later_not : (q : Point) → is_first q ≡ false → (is_send q ≡ false) × (is_release q ≡ false)
later_not (SendWakeExchange u) later = absurd (false≢true (sym later))
later_not (ReleaseOwnerStore r) later = absurd (false≢true (sym later))
later_not _ later = (refl, refl)

pub no_send : (x : SeatState) (s n : ℕ) (o : Option Record) → is_send (stepped_by x s n o).seat.point ≡ false
no_send x s n o = (later_not (stepped_by x s n o).seat.point (no_first x s n o)).0

pub no_release : (x : SeatState) (s n : ℕ) (o : Option Record) → is_release (stepped_by x s n o).seat.point ≡ false
no_release x s n o = (later_not (stepped_by x s n o).seat.point (no_first x s n o)).1

pub no_leaves : (q : Point) → is_release q ≡ false → (r : Releaser) → q ≢ ReleaseOwnerStore r
no_leaves (ReleaseOwnerStore u) other r e = false≢true (sym other)
no_leaves _ other r e = cc

pub open_point : (q : Point) → errand q ≢ nothing → kind q ≢ None
open_point Rest some e = some refl
open_point (Asleep sleeper) some e = some refl
open_point _ some e = cc

same_how : (x y : How) → Some x ≡ Some y → x ≡ y
same_how x y e = cc

entered : (q : Point) (how : How) → how_at q ≡ Some how → (entrant : Entrant) × (q ≡ EnterOwnerStore entrant how)
entered (EnterOwnerStore entrant h) how e = (entrant, ap (λ (z : How). EnterOwnerStore entrant z) (same_how h how e))
entered _ how e = absurd (cc)

-- a seat acquires the mutex only by its owner store
pub how_enters : (x : SeatState) (s n : ℕ) (o : Option Record) (how : How) → how_held (stepped_by x s n o).turn ≡ Some how → (entrant : Entrant) × (x.point ≡ EnterOwnerStore entrant how)
how_enters x s n o how e = entered x.point how (sym (how_step x s n o) ∙ e)
