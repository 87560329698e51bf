-- A seat comes to a point at which it has a link by the store of the link alone.
use Rattle.std.proofs.Common.{◌≡◌, ℕ, ◌+◌, ◌<◌, List, [], ◌∷◌, nat_eq, nat_lt, if◌then◌else◌, refl, sym, ap, ◌∙◌, arith, Option, Some, None}
use Rattle.std.specs.Prelude.{Bool, true, false, ◌&&◌}
use Rattle.std.proofs.lemmas.Bool.{false≢true}
use Rattle.lfm_model.specs.declared.answers.Unlocked.{Unlocked}
use Rattle.lfm_words.specs.declared.pop_lists.Record.{Record}
use Rattle.lfm_words.specs.declared.wakes.Wake.{Wake}
use Rattle.lfm_words.specs.declared.wakes.Wake.TheVariants.{Waiting}
use Rattle.lfm_protocol.specs.declared.answers.Call.{Call}
use Rattle.lfm_protocol.specs.declared.answers.Call.TheVariants.{Lock, TryLock, Unlock, StartWait, SendLock, Receive}
use Rattle.lfm_protocol.specs.declared.kinds.Kind.{Kind}
use Rattle.lfm_protocol.specs.declared.limits.Limits.{Limits}
use Rattle.lfm_protocol.specs.declared.points.Carrier.{Carrier}
use Rattle.lfm_protocol.specs.declared.points.Point.{Point}
use Rattle.lfm_protocol.specs.declared.points.Point.TheVariants.{Rest, Asleep, LockCountAdd, LockOwnerLoad, LockCountSubtract, TryCountExchange, TryOwnerLoad, TryHandoffLoad, TryHandoffExchange, TryCountAdd, SendWakeExchange, SendCountAdd, SendPushRecheck, SendWakeStore, PushLoad, LinkStore, PushExchange, PushedHandoffLoad, PushedHandoffExchange, ReleaseOwnerStore, ReleaseCountSubtract, ReleaseHandoffStore, ReleasePushRecheck, ReleaseHandoffExchange, WaitWakeStore, TakeClearHead, TakeLinkLoad, GrantWakeStore, EnterOwnerStore, ReceiveWakeStore}
use Rattle.lfm_protocol.specs.declared.points.Pusher.{Pusher}
use Rattle.lfm_protocol.specs.declared.points.Releaser.{Releaser}
use Rattle.lfm_protocol.specs.declared.points.Releaser.TheVariants.{Unlocker, Waiter}
use Rattle.lfm_protocol.specs.declared.seats.SeatState.{SeatState}
use Rattle.lfm_protocol.specs.After.{same_handoff, same_link, releases, claims, take}
use Rattle.lfm_protocol.specs.Begin.{Stepped, goes_on, ends, refuses, charges, begin_awake, begin_entry}
use Rattle.lfm_protocol.specs.Begin as Begin
use Rattle.lfm_protocol.specs.Points.{kind, target}
use Rattle.lfm_laws.specs.table.Settles.{begun}
use Rattle.lfm_laws.specs.table.Words.{index_by, stepped_by, handoff_of, wake_of, link_of}
use Rattle.lfm_table.specs.Settled.{Became, calls_to}
use Rattle.lfm_table.proofs.tables.StepFacts.{made_of}
use Rattle.lfm_pool.specs.Tables.{rests_at, has_link_at}

-- a seat with a link does not rest
pub linked_busy : (q : Point) → has_link_at q ≡ true → rests_at q ≡ false
linked_busy Rest e = absurd (false≢true e)
linked_busy _ e = refl

-- Steps

-- the seat has no link after it
abbrev LeavesNoLink : Stepped → Type 0
LeavesNoLink st = has_link_at st.seat.point ≡ false

none_if : (b : Bool) (u v : Stepped) → LeavesNoLink u → LeavesNoLink v → LeavesNoLink (if b then u else v)
none_if true u v first second = first
none_if false u v first second = second

none_at_if : (b : Bool) (p q : Point) → has_link_at p ≡ false → has_link_at q ≡ false → has_link_at (if b then p else q) ≡ false
none_at_if true p q first second = first
none_at_if false p q first second = second

none_releases : (x : SeatState) (r : Releaser) (answer : Unlocked) → LeavesNoLink (releases x r answer)
none_releases x Unlocker answer = refl
none_releases x Waiter answer = refl

none_taken : (carrier : Carrier) (s : ℕ) (o : Option Record) → has_link_at (TakeClearHead carrier) ≡ false → has_link_at (take carrier s o) ≡ false
none_taken Carrier.Locker s o e = absurd (false≢true (sym e))
none_taken (Carrier.Releaser r) s None e = refl
none_taken (Carrier.Releaser r) s (Some x) e = refl
none_taken (Carrier.Reclaimer r) s None e = refl
none_taken (Carrier.Reclaimer r) s (Some x) e = refl
none_taken Carrier.Sender s None e = refl
none_taken Carrier.Sender s (Some x) e = refl

none_claims : (x : SeatState) (t : ℕ) (w : Wake) → LeavesNoLink (claims x t w)
none_claims x t Waiting = refl
none_claims x t _ = refl

-- the store of a seat's own link, and the store by which a seat goes to sleep that has no record yet
abbrev pub gains_link : Point → Bool
gains_link (LinkStore Pusher.Locker seen) = true
gains_link (WaitWakeStore released) = true
gains_link _ = false

-- each other step leaves a seat without a link if it had none
none_after : (d t ps s n : ℕ) (o : Option Record) (q : Point) → gains_link q ≡ false → has_link_at q ≡ false → LeavesNoLink (stepped_by (made_of d t ps q) s n o)
none_after d t ps s n o Rest plain none = refl
none_after d t ps s n o LockCountAdd plain none = none_at_if (nat_eq n 0) _ _ refl refl
none_after d t ps s n o LockOwnerLoad plain none = none_at_if (nat_eq n s) _ _ refl refl
none_after d t ps s n o LockCountSubtract plain none = refl
none_after d t ps s n o TryCountExchange plain none = none_at_if (nat_eq n 0) _ _ refl refl
none_after d t ps s n o TryOwnerLoad plain none = none_if (nat_eq n s) _ _ refl refl
none_after d t ps s n o TryHandoffLoad plain none = none_if (nat_eq (handoff_of n).seat 0) _ _ refl refl
none_after d t ps s n o (TryHandoffExchange seen) plain none = none_if (same_handoff (handoff_of n) seen) _ _ refl refl
none_after d t ps s n o TryCountAdd plain none = refl
none_after d t ps s n o (SendWakeExchange u) plain none = none_claims (made_of d t ps (SendWakeExchange u)) u (wake_of n)
none_after d t ps s n o (SendCountAdd u) plain none = none_at_if (nat_eq n 0) _ _ refl refl
none_after d t ps s n o (SendPushRecheck u seen) plain none = none_if (nat_eq (link_of n).next 0) _ _ refl refl
none_after d t ps s n o (SendWakeStore u) plain none = refl
none_after d t ps s n o (PushLoad pusher) plain none = refl
none_after d t ps s n o (LinkStore (Pusher.Sender u) seen) plain none = refl
none_after d t ps s n o (PushExchange (Pusher.Sender u) seen) plain none = none_at_if (same_link (link_of n) seen) (PushedHandoffLoad (Pusher.Sender u)) (LinkStore (Pusher.Sender u) (link_of n)) refl refl
none_after d t ps s n o (PushedHandoffLoad (Pusher.Sender u)) plain none = none_if (nat_eq (handoff_of n).seat 0) _ _ refl refl
none_after d t ps s n o (PushedHandoffExchange (Pusher.Sender u) seen) plain none = none_if (same_handoff (handoff_of n) seen) _ _ (none_taken Carrier.Sender s o refl) refl
none_after d t ps s n o (ReleaseOwnerStore r) plain none = refl
none_after d t ps s n o (ReleaseCountSubtract r) plain none = none_if (nat_eq n 1) _ _ (none_releases (made_of d t ps (ReleaseCountSubtract r)) r Unlocked.Free) (none_taken (Carrier.Releaser r) s o refl)
none_after d t ps s n o (ReleaseHandoffStore r) plain none = refl
none_after d t ps s n o (ReleasePushRecheck r) plain none = none_if (nat_eq (link_of n).next 0) _ _ (none_releases (made_of d t ps (ReleasePushRecheck r)) r Unlocked.Posted) refl
none_after d t ps s n o (ReleaseHandoffExchange r) plain none = none_if (same_handoff (handoff_of n) (record { seat = s; post = ps })) _ _ (none_taken (Carrier.Reclaimer r) s o refl) (none_releases (made_of d t ps (ReleaseHandoffExchange r)) r Unlocked.TakenOver)
none_after d t ps s n o (TakeClearHead (Carrier.Releaser r)) plain none = none_at_if (nat_eq (link_of n).next 0) _ _ refl refl
none_after d t ps s n o (TakeClearHead (Carrier.Reclaimer r)) plain none = refl
none_after d t ps s n o (TakeClearHead Carrier.Sender) plain none = refl
none_after d t ps s n o (TakeLinkLoad (Carrier.Releaser r) next) plain none = none_at_if (nat_eq (link_of n).next 0) _ _ refl refl
none_after d t ps s n o (TakeLinkLoad (Carrier.Reclaimer r) next) plain none = none_at_if (nat_eq (link_of n).next 0) _ _ refl refl
none_after d t ps s n o (TakeLinkLoad Carrier.Sender next) plain none = none_at_if (nat_eq (link_of n).next 0) _ _ refl refl
none_after d t ps s n o (GrantWakeStore (Carrier.Releaser r) record_) plain none = none_releases (made_of d t ps (GrantWakeStore (Carrier.Releaser r) record_)) r (Unlocked.Granted record_.seat)
none_after d t ps s n o (GrantWakeStore (Carrier.Reclaimer r) record_) plain none = none_releases (made_of d t ps (GrantWakeStore (Carrier.Reclaimer r) record_)) r (Unlocked.Granted record_.seat)
none_after d t ps s n o (GrantWakeStore Carrier.Sender record_) plain none = refl
none_after d t ps s n o (EnterOwnerStore entrant how) plain none = refl
none_after d t ps s n o (ReceiveWakeStore stamp) plain none = refl
none_after d t ps s n o (LinkStore Pusher.Locker seen) plain none = absurd (false≢true (sym plain))
none_after d t ps s n o (WaitWakeStore released) plain none = absurd (false≢true (sym plain))
none_after d t ps s n o _ plain none = absurd (false≢true (sym none))

link_by : (b c : Bool) → (b ≡ false → c ≡ false) → c ≡ true → b ≡ true
link_by true c none e = refl
link_by false c none e = absurd (false≢true (sym (none refl) ∙ e))

-- so a seat that has a link after such a step had one before
pub link_kept : (p : SeatState) (s n : ℕ) (o : Option Record) → gains_link p.point ≡ false → has_link_at (stepped_by p s n o).seat.point ≡ true → has_link_at p.point ≡ true
link_kept p s n o plain = link_by (has_link_at p.point) (has_link_at (stepped_by p s n o).seat.point) (none_after p.depth p.takes p.posts s n o p.point plain)

-- Starts of calls

none_entry : (d t ps budget : ℕ) (q : Point) → has_link_at q ≡ false → LeavesNoLink (begin_entry (made_of d t ps Rest) budget q)
none_entry d t ps budget q none =
    none_if (nat_lt 65534 d) _ _ refl (none_if (nat_eq d 0) _ _ (none_if (nat_lt t budget) _ _ none refl) none)

none_awake : (d t ps : ℕ) (l : Limits) (call : Call) → LeavesNoLink (begin_awake (made_of d t ps Rest) l call)
none_awake d t ps l Lock = none_entry d t ps l.budget LockCountAdd refl
none_awake d t ps l TryLock = none_entry d t ps l.budget TryCountExchange refl
none_awake d t ps l Unlock = none_if (nat_eq d 0) _ _ refl (none_if (nat_eq d 1) _ _ refl refl)
none_awake d t ps l StartWait = none_if (nat_eq d 0) _ _ refl (none_if (nat_lt 1 d) _ _ refl (none_if (nat_lt t l.budget) _ _ refl refl))
none_awake d t ps l (SendLock u) = none_if (nat_lt 0 u && nat_lt u (l.seats + 1)) _ _ refl refl
none_awake d t ps l Receive = refl

none_begin : (d t ps : ℕ) (l : Limits) (call : Call) (q : Point) → has_link_at q ≡ false → LeavesNoLink (Begin.begin (made_of d t ps q) l call)
none_begin d t ps l call Rest none = none_awake d t ps l call
none_begin d t ps l call (Asleep sleeper) none = absurd (false≢true (sym none))
none_begin d t ps l call _ none = none

none_begun : (x : SeatState) (l : Limits) (calls : List Call) → has_link_at x.point ≡ false → has_link_at (begun x l calls).point ≡ false
none_begun x l [] none = none
none_begun x l (call ∷ calls) none =
    let y = begun x l calls in none_begin y.depth y.takes y.posts l call y.point (none_begun x l calls none)

-- a seat that has a link after the start of a call had one before
pub link_of_begun : (x : SeatState) (l : Limits) (p : SeatState) → Became x l p → has_link_at p.point ≡ true → has_link_at x.point ≡ true
link_of_begun x l p became e =
    link_by (has_link_at x.point) (has_link_at p.point) (λ none. ap (λ (y : SeatState). has_link_at y.point) became.leads ∙ none_begun x l (calls_to x p) none) e

-- Steps on the four words of a mutex

-- such a step gains no link
pub own_gains_none : (seats number : ℕ) (q : Point) (k : Kind) → kind q ≡ Some k → 0 < target q number → index_by seats (target q number) (Some k) < 4 → gains_link q ≡ false
own_gains_none seats number (LinkStore Pusher.Locker seen) k is some low =
    let e : Kind.LinkStore ≡ k = cc in let f = ap (λ (j : Kind). index_by seats number (Some j)) e in absurd (omega (arith, f, some, low))
own_gains_none seats number (WaitWakeStore released) k is some low =
    let e : Kind.WakeStore ≡ k = cc in let f = ap (λ (j : Kind). index_by seats number (Some j)) e in absurd (omega (arith, f, some, low))
own_gains_none seats number _ k is some low = refl
