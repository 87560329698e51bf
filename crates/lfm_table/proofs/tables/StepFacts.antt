-- What a step does to a seat's own data. A seat at depth 0 after its step was at depth 0 before, unless it has just released,
-- and it has answered no hold. A seat that does not carry the value does not change the pop list.
use Rattle.std.proofs.Common.{◌≡◌, ◌≢◌, ◌⊎◌, ℕ, zero, suc, ◌+◌, ◌-◌, Bool, true, false, Option, Some, None, List, [], ◌∷◌, nat_eq, refl, sym, ap, ◌∙◌, arith, inl, inr, if◌then◌else◌}
use Rattle.std.specs.Prelude.{nat_lt, ◌&&◌}
use Rattle.std.proofs.lemmas.Bool.{cases_eq, ne_eqb, eq-eqb, false≢true}
use Rattle.lfm_model.specs.declared.answers.How.{How}
use Rattle.lfm_model.specs.declared.answers.Unlocked.{Unlocked}
use Rattle.lfm_words.specs.declared.pop_lists.Record.{Record}
use Rattle.lfm_words.specs.declared.wakes.Wake.{Wake}
use Rattle.lfm_words.specs.declared.wakes.Wake.TheVariants.{Waiting, Grant}
use Rattle.lfm_protocol.specs.declared.answers.Call.{Call}
use Rattle.lfm_protocol.specs.declared.answers.Call.TheVariants.{Lock, TryLock, Unlock, StartWait, SendLock, Receive}
use Rattle.lfm_protocol.specs.declared.kinds.Kind.{Kind}
use Rattle.lfm_protocol.specs.declared.limits.Limits.{Limits}
use Rattle.lfm_protocol.specs.declared.points.Carrier.{Carrier}
use Rattle.lfm_protocol.specs.declared.points.Entrant.{Entrant}
use Rattle.lfm_protocol.specs.declared.points.Point.{Point}
use Rattle.lfm_protocol.specs.declared.points.Point.TheVariants.{Rest, Asleep, LockCountAdd, LockCountSubtract, TryCountExchange, TryOwnerLoad, TryHandoffLoad, TryHandoffExchange, TryCountAdd, SendWakeExchange, SendPushRecheck, SendWakeStore, PushedHandoffLoad, PushedHandoffExchange, ReleaseOwnerStore, ReleaseCountSubtract, ReleaseHandoffStore, ReleasePushRecheck, ReleaseHandoffExchange, TakeClearHead, TakeLinkLoad, GrantWakeStore, EnterOwnerStore, ReceiveWakeLoad, ReceiveWakeStore}
use Rattle.lfm_protocol.specs.declared.points.Pusher.{Pusher}
use Rattle.lfm_protocol.specs.declared.points.Releaser.{Releaser}
use Rattle.lfm_protocol.specs.declared.points.Releaser.TheVariants.{Unlocker, Waiter}
use Rattle.lfm_protocol.specs.declared.points.Sleeper.{Sleeper}
use Rattle.lfm_protocol.specs.declared.seats.SeatState.{SeatState}
use Rattle.lfm_protocol.specs.After.{same_handoff, releases, pushed, granted, receives, claims, carrier_of, take, busy, found_posted, serves, once_cleared, drops_oldest, drops_oldest_at, how_granted}
use Rattle.lfm_protocol.specs.Begin.{Stepped, goes_on, ends, refuses, charges, begin_awake, begin_asleep, begin_at}
use Rattle.lfm_protocol.specs.Begin as Begin
use Rattle.lfm_laws.specs.table.Carried.{carries_value}
use Rattle.lfm_laws.specs.laws.Events.{answered_by}
use Rattle.lfm_protocol.specs.Place.{carries}
use Rattle.lfm_protocol.specs.Points.{kind, target}
use Rattle.lfm_laws.specs.table.Settles.{begun}
use Rattle.lfm_laws.specs.steady.Steady.{DepthAt}
use Rattle.lfm_laws.specs.table.Words.{stepped_of, stepped_by, popped_of, popped_by_step, popped_if, handoff_of, wake_of, link_of}
use Rattle.lfm_table.specs.Rule.{left_by}
use Rattle.lfm_table.specs.Settled.{Became, calls_to}
use Rattle.lfm_table.specs.Steps.{stores, gives_at, add_by}

-- a seat's data, from their parts
abbrev pub made_of : ℕ → ℕ → ℕ → Point → SeatState
made_of d t ps q = record { depth = d; takes = t; posts = ps; point = q }

-- Depth 0

-- if the seat is at depth 0 after its step, it was so before, and it has answered no hold
abbrev pub Shallow : ℕ → ℕ → Stepped → Type 0
Shallow d s st = (st.seat.depth ≡ 0 → d ≡ 0) × (st.seat.depth ≡ 0 → answered_by s st.turn ≡ [])

shallow_if : (d s : ℕ) (t : Bool) (u v : Stepped) → Shallow d s u → Shallow d s v → Shallow d s (if t then u else v)
shallow_if d s true u v first second = first
shallow_if d s false u v first second = second

module _ (d t ps s : ℕ) where
  shallow_releases : (q : Point) (r : Releaser) (answer : Unlocked) → Shallow d s (releases (made_of d t ps q) r answer)
  shallow_releases q Unlocker answer = (λ e. e, λ e. refl)
  shallow_releases q Waiter answer = (λ e. e, λ e. refl)

  shallow_pushed : (q : Point) (pusher : Pusher) → Shallow d s (pushed (made_of d t ps q) pusher)
  shallow_pushed q Pusher.Locker = (λ e. e, λ e. refl)
  shallow_pushed q (Pusher.Sender u) = (λ e. e, λ e. refl)

  shallow_granted : (q : Point) (carrier : Carrier) (oldest : Record) → Shallow d s (granted (made_of d t ps q) carrier oldest)
  shallow_granted q Carrier.Locker oldest = (λ e. e, λ e. refl)
  shallow_granted q (Carrier.Releaser r) oldest = shallow_releases q r (Unlocked.Granted oldest.seat)
  shallow_granted q (Carrier.Reclaimer r) oldest = shallow_releases q r (Unlocked.Granted oldest.seat)
  shallow_granted q Carrier.Sender oldest = (λ e. e, λ e. refl)

  shallow_receives : (q : Point) (sleeper : Sleeper) (w : Wake) → Shallow d s (receives (made_of d t ps q) sleeper w)
  shallow_receives q sleeper (Grant stamp) = (λ e. e, λ e. refl)
  shallow_receives q sleeper _ = (λ e. e, λ e. refl)

  shallow_claims : (q : Point) (u : ℕ) (w : Wake) → Shallow d s (claims (made_of d t ps q) u w)
  shallow_claims q u Waiting = (λ e. e, λ e. refl)
  shallow_claims q u _ = (λ e. e, λ e. refl)

  shallow_at : (n : ℕ) (o : Option Record) (q : Point) → ((r : Releaser) → q ≢ ReleaseOwnerStore r) → Shallow d s (stepped_by (made_of d t ps q) s n o)
  shallow_at n o LockCountSubtract other = (λ e. absurd (omega arith), λ e. absurd (omega arith))
  shallow_at n o TryOwnerLoad other =
      shallow_if d s (nat_eq n s) _ (goes_on (made_of d t ps TryOwnerLoad) TryHandoffLoad) ((λ e. absurd (omega arith)), λ e. absurd (omega arith)) (λ e. e, λ e. refl)
  shallow_at n o TryHandoffLoad other =
      shallow_if d s (nat_eq (handoff_of n).seat 0) (busy (made_of d t ps TryHandoffLoad)) _ (λ e. e, λ e. refl) (λ e. e, λ e. refl)
  shallow_at n o (TryHandoffExchange seen) other =
      shallow_if d s (same_handoff (handoff_of n) seen) (goes_on (made_of d t ps (TryHandoffExchange seen)) TryCountAdd) (busy (made_of d t ps (TryHandoffExchange seen))) (λ e. e, λ e. refl) (λ e. e, λ e. refl)
  shallow_at n o (SendWakeExchange u) other = shallow_claims (SendWakeExchange u) u (wake_of n)
  shallow_at n o (SendPushRecheck u seen) other =
      shallow_if d s (nat_eq (link_of n).next 0) _ (goes_on (made_of d t ps (SendPushRecheck u seen)) (PushedHandoffExchange (Pusher.Sender u) seen)) (λ e. e, λ e. refl) (λ e. e, λ e. refl)
  shallow_at n o (PushedHandoffLoad pusher) other =
      shallow_if d s (nat_eq (handoff_of n).seat 0) (pushed (made_of d t ps (PushedHandoffLoad pusher)) pusher) (goes_on (made_of d t ps (PushedHandoffLoad pusher)) (found_posted pusher (handoff_of n)))
      (shallow_pushed (PushedHandoffLoad pusher) pusher) (λ e. e, λ e. refl)
  shallow_at n o (PushedHandoffExchange pusher seen) other =
      shallow_if d s (same_handoff (handoff_of n) seen) (goes_on (made_of d t ps (PushedHandoffExchange pusher seen)) (take (carrier_of pusher) s o)) (pushed (made_of d t ps (PushedHandoffExchange pusher seen)) pusher)
      (λ e. e, λ e. refl) (shallow_pushed (PushedHandoffExchange pusher seen) pusher)
  shallow_at n o (ReleaseOwnerStore r) other = absurd (other r refl)
  shallow_at n o (ReleaseCountSubtract r) other =
      shallow_if d s (nat_eq n 1) (releases (made_of d t ps (ReleaseCountSubtract r)) r Unlocked.Free) (goes_on (made_of d t ps (ReleaseCountSubtract r)) (take (Carrier.Releaser r) s o))
      (shallow_releases (ReleaseCountSubtract r) r Unlocked.Free) (λ e. e, λ e. refl)
  shallow_at n o (ReleasePushRecheck r) other =
      shallow_if d s (nat_eq (link_of n).next 0) (releases (made_of d t ps (ReleasePushRecheck r)) r Unlocked.Posted) (goes_on (made_of d t ps (ReleasePushRecheck r)) (ReleaseHandoffExchange r))
      (shallow_releases (ReleasePushRecheck r) r Unlocked.Posted) (λ e. e, λ e. refl)
  shallow_at n o (ReleaseHandoffExchange r) other =
      shallow_if d s (same_handoff (handoff_of n) (record { seat = s; post = ps })) (goes_on (made_of d t ps (ReleaseHandoffExchange r)) (take (Carrier.Reclaimer r) s o)) (releases (made_of d t ps (ReleaseHandoffExchange r)) r Unlocked.TakenOver)
      (λ e. e, λ e. refl) (shallow_releases (ReleaseHandoffExchange r) r Unlocked.TakenOver)
  shallow_at n o (GrantWakeStore carrier oldest) other = shallow_granted (GrantWakeStore carrier oldest) carrier oldest
  shallow_at n o (EnterOwnerStore entrant how) other = ((λ e. absurd (omega arith)), λ e. absurd (omega arith))
  shallow_at n o (ReceiveWakeLoad sleeper) other = shallow_receives (ReceiveWakeLoad sleeper) sleeper (wake_of n)
  shallow_at n o _ other = (λ e. e, λ e. refl)

pub release_of : (q : Point) → ((r : Releaser) × (q ≡ ReleaseOwnerStore r)) ⊎ ((r : Releaser) → q ≢ ReleaseOwnerStore r)
release_of (ReleaseOwnerStore r) = inl (r, refl)
release_of _ = inr (λ r e. cc)

pub shallow_step : (x : SeatState) (s n : ℕ) (o : Option Record) → ((r : Releaser) → x.point ≢ ReleaseOwnerStore r) → Shallow x.depth s (stepped_by x s n o)
shallow_step x s n o other = shallow_at x.depth x.takes x.posts s n o x.point other

-- the store that ends a hold
pub released : (x : SeatState) (s n : ℕ) (o : Option Record) (r : Releaser) → x.point ≡ ReleaseOwnerStore r
    → (carries_value (stepped_by x s n o).seat ≡ true) × (answered_by s (stepped_by x s n o).turn ≡ [])
released x s n o r at = rw at (refl, refl)

-- a seat at depth 0 after its step has answered no hold
pub no_answer : (x : SeatState) (s n : ℕ) (o : Option Record) → (stepped_by x s n o).seat.depth ≡ 0 → answered_by s (stepped_by x s n o).turn ≡ []
no_answer x s n o deep =
    elim (release_of x.point) [
      | inl r ↦ (released x s n o r.0 r.1).1
      | inr other ↦ (shallow_step x s n o other).1 deep
    ]

carries_if : (b c : Bool) → (if b then c else true) ≡ false → b ≡ true
carries_if true c e = refl
carries_if false c e = absurd (false≢true (sym e))

is_zero : (d : ℕ) → nat_eq d 0 ≡ true → d ≡ 0
is_zero d e =
    elim (cases_eq d 0) [
      | inl z ↦ z
      | inr n ↦ absurd (false≢true (sym (ne_eqb d 0 n) ∙ e))
    ]

-- a seat that does not carry the value has depth 0
pub empty_depth : (x : SeatState) → carries_value x ≡ false → x.depth ≡ 0
empty_depth x e = is_zero x.depth (carries_if (nat_eq x.depth 0) (carries x.point) e)

not_held : (q : Point) {A : Type 0} (new old : A) → ((r : Releaser) → q ≢ ReleaseOwnerStore r) → left_by q new old ≡ old
not_held (ReleaseOwnerStore r) new old other = absurd (other r refl)
not_held _ new old other = refl

pub left_same : {A : Type 0} (q : Point) (new old : A) → ((r : Releaser) → q ≢ ReleaseOwnerStore r) → left_by q new old ≡ old
left_same q new old other = not_held q new old other

pub left_new : {A : Type 0} (q : Point) (r : Releaser) (new old : A) → q ≡ ReleaseOwnerStore r → left_by q new old ≡ new
left_new q r new old at = rw at refl

-- a seat at depth 0 is not at the store that ends a hold
pub not_release : (d : ℕ) (q : Point) → DepthAt d q → d ≡ 0 → (r : Releaser) → q ≢ ReleaseOwnerStore r
not_release d (ReleaseOwnerStore u) deep none r e = absurd (omega (arith, deep, none))
not_release d _ deep none r e = cc

-- The pop list

carries_none : (b : Bool) → b ≡ true → b ≡ false → ⊥
carries_none b first second = false≢true (sym second ∙ first)

by_test : (b c : Bool) → c ≡ true → (if b then c else true) ≡ true
by_test true c e = e
by_test false c e = refl

carries_at : (depth : ℕ) (p : Point) → carries p ≡ true → (if nat_eq depth 0 then carries p else true) ≡ true
carries_at depth p e = by_test (nat_eq depth 0) (carries p) e

pub carrying : (x : SeatState) → carries x.point ≡ true → carries_value x ≡ true
carrying x e = carries_at x.depth x.point e

list_at : (d t ps s n : ℕ) (l : List Record) (q : Point) → carries_value (made_of d t ps q) ≡ false → popped_by_step (made_of d t ps q) s n l ≡ l
list_at d t ps s n l (EnterOwnerStore entrant how) none = absurd (carries_none (carries_value (made_of d t ps (EnterOwnerStore entrant how))) (carries_at d (EnterOwnerStore entrant how) refl) none)
list_at d t ps s n l (GrantWakeStore carrier oldest) none = absurd (carries_none (carries_value (made_of d t ps (GrantWakeStore carrier oldest))) (carries_at d (GrantWakeStore carrier oldest) refl) none)
list_at d t ps s n l (TakeLinkLoad carrier next) none = absurd (carries_none (carries_value (made_of d t ps (TakeLinkLoad carrier next))) (carries_at d (TakeLinkLoad carrier next) refl) none)
list_at d t ps s n l _ none = refl

-- a step of a seat that does not carry the value does not change the pop list
pub list_stays : (x : SeatState) (s n : ℕ) (l : List Record) → carries_value x ≡ false → popped_by_step x s n l ≡ l
list_stays x s n l none = list_at x.depth x.takes x.posts s n l x.point none

-- Stores find nothing

other_kind : (x : SeatState) (s n m : ℕ) (o : Option Record) (k : Option Kind) → m ≡ n → stepped_of x s n o k ≡ stepped_of x s m o k
other_kind x s n m o k same = ap (λ i. stepped_of x s i o k) (sym same)

-- after a store the seat's data do not depend on this number
pub told_by : (x : SeatState) (s n m : ℕ) (o : Option Record) (k : Option Kind) → (stores k ≡ false → m ≡ n) → stepped_of x s n o k ≡ stepped_of x s m o k
told_by x s n m o (Some Kind.OwnerStore) same = refl
told_by x s n m o (Some Kind.LinkStore) same = refl
told_by x s n m o (Some Kind.HandoffStore) same = refl
told_by x s n m o (Some Kind.WakeStore) same = refl
told_by x s n m o None same = refl
told_by x s n m o (Some Kind.CountExchange) same = other_kind x s n m o (Some Kind.CountExchange) (same refl)
told_by x s n m o (Some Kind.CountAdd) same = other_kind x s n m o (Some Kind.CountAdd) (same refl)
told_by x s n m o (Some Kind.CountSubtract) same = other_kind x s n m o (Some Kind.CountSubtract) (same refl)
told_by x s n m o (Some Kind.OwnerLoad) same = other_kind x s n m o (Some Kind.OwnerLoad) (same refl)
told_by x s n m o (Some Kind.PushLoad) same = other_kind x s n m o (Some Kind.PushLoad) (same refl)
told_by x s n m o (Some Kind.PushExchange) same = other_kind x s n m o (Some Kind.PushExchange) (same refl)
told_by x s n m o (Some Kind.ClearHead) same = other_kind x s n m o (Some Kind.ClearHead) (same refl)
told_by x s n m o (Some Kind.LinkLoad) same = other_kind x s n m o (Some Kind.LinkLoad) (same refl)
told_by x s n m o (Some Kind.HandoffLoad) same = other_kind x s n m o (Some Kind.HandoffLoad) (same refl)
told_by x s n m o (Some Kind.HandoffExchange) same = other_kind x s n m o (Some Kind.HandoffExchange) (same refl)
told_by x s n m o (Some Kind.WakeLoad) same = other_kind x s n m o (Some Kind.WakeLoad) (same refl)
told_by x s n m o (Some Kind.WakeExchange) same = other_kind x s n m o (Some Kind.WakeExchange) (same refl)

pub told_list : (x : SeatState) (t n m : ℕ) (l : List Record) (k : Option Kind) → (stores k ≡ false → m ≡ n) → popped_of x t n l k ≡ popped_of x t m l k
told_list x t n m l (Some Kind.LinkLoad) same = ap (λ i. popped_of x t i l (Some Kind.LinkLoad)) (sym (same refl))
told_list x t n m l _ same = refl

-- Starts of calls

begin_if : (d : ℕ) (t : Bool) (u v : Stepped) → (u.seat.depth ≡ 0 → d ≡ 0) → (t ≡ false → v.seat.depth ≡ 0 → d ≡ 0) → (if t then u else v).seat.depth ≡ 0 → d ≡ 0
begin_if d true u v first second e = first e
begin_if d false u v first second e = second refl e

charge_depth : (p : SeatState) (budget : ℕ) (q : Point) → (charges p budget q).seat.depth ≡ 0 → p.depth ≡ 0
charge_depth p budget q = begin_if p.depth (nat_lt p.takes budget) _ _ (λ e. e) (λ t e. e)

lowered_depth : (d : ℕ) → nat_eq d 0 ≡ false → nat_eq d 1 ≡ false → d - 1 ≡ 0 → d ≡ 0
lowered_depth zero none one e = refl
lowered_depth (suc zero) none one e = absurd (cc)
lowered_depth (suc (suc n)) none one e = absurd (omega (arith, e))

awake_depth : (p : SeatState) (l : Limits) (call : Call) → (begin_awake p l call).seat.depth ≡ 0 → p.depth ≡ 0
awake_depth p l Lock =
    begin_if p.depth (nat_lt 65534 p.depth) (refuses p _) _ (λ e. e) (λ t. begin_if p.depth (nat_eq p.depth 0) (charges p l.budget LockCountAdd) _ (charge_depth p l.budget LockCountAdd) (λ u e. e))
awake_depth p l TryLock =
    begin_if p.depth (nat_lt 65534 p.depth) (refuses p _) _ (λ e. e) (λ t. begin_if p.depth (nat_eq p.depth 0) (charges p l.budget TryCountExchange) _ (charge_depth p l.budget TryCountExchange) (λ u e. e))
awake_depth p l Unlock =
    begin_if p.depth (nat_eq p.depth 0) (refuses p _) _ (λ e. e) (λ t. begin_if p.depth (nat_eq p.depth 1) (goes_on p _) _ (λ e. e) (λ u e. lowered_depth p.depth t u e))
awake_depth p l StartWait =
    begin_if p.depth (nat_eq p.depth 0) (refuses p _) _ (λ e. e) (λ t. begin_if p.depth (nat_lt 1 p.depth) (refuses p _) _ (λ e. e) (λ u. charge_depth p l.budget (ReleaseOwnerStore Waiter)))
awake_depth p l (SendLock u) = begin_if p.depth (nat_lt 0 u && nat_lt u (l.seats + 1)) (goes_on p _) _ (λ e. e) (λ t e. e)
awake_depth p l Receive = λ e. e

asleep_depth : (p : SeatState) (sleeper : Sleeper) (call : Call) → (begin_asleep p sleeper call).seat.depth ≡ 0 → p.depth ≡ 0
asleep_depth p sleeper Receive = λ e. e
asleep_depth p sleeper _ = λ e. e

begin_depth : (p : SeatState) (l : Limits) (call : Call) (q : Point) → (begin_at p l call q).seat.depth ≡ 0 → p.depth ≡ 0
begin_depth p l call Rest = awake_depth p l call
begin_depth p l call (Asleep sleeper) = asleep_depth p sleeper call
begin_depth p l call _ = λ e. e

begun_depth : (x : SeatState) (l : Limits) (calls : List Call) → (begun x l calls).depth ≡ 0 → x.depth ≡ 0
begun_depth x l [] e = e
begun_depth x l (call ∷ calls) e = begun_depth x l calls (begin_depth (begun x l calls) l call (begun x l calls).point e)

-- a seat at depth 0 after calls were started was at depth 0 before
pub became_depth : (x : SeatState) (l : Limits) (p : SeatState) → Became x l p → p.depth ≡ 0 → x.depth ≡ 0
became_depth x l p b e = begun_depth x l (calls_to x p) (ap (λ y. y.depth) (sym b.leads) ∙ e)

-- A seat that carries the value still carries it after its step, unless the step gives it away

nonzero_carries : (x : SeatState) → x.depth ≢ 0 → carries_value x ≡ true
nonzero_carries x some = rw (ne_eqb x.depth 0 some) refl

pub gives_carries : (q : Point) → gives_at q ≡ true → carries q ≡ true
gives_carries (ReleaseCountSubtract r) e = refl
gives_carries (ReleaseHandoffStore r) e = refl
gives_carries (GrantWakeStore carrier oldest) e = refl
gives_carries (SendWakeStore t) e = refl
gives_carries _ e = absurd (false≢true e)

point_if : (b : Bool) (p q : Point) → carries p ≡ true → carries q ≡ true → carries (if b then p else q) ≡ true
point_if true p q first second = first
point_if false p q first second = second

serving : (carrier : Carrier) (s : ℕ) (r : Record) → carries (serves carrier s r) ≡ true
serving Carrier.Locker s r = point_if (nat_eq r.seat s) _ _ refl refl
serving (Carrier.Releaser releaser) s r = refl
serving (Carrier.Reclaimer releaser) s r = refl
serving Carrier.Sender s r = refl

pub taking : (carrier : Carrier) (s : ℕ) (oldest : Option Record) → carries (take carrier s oldest) ≡ true
taking carrier s None = refl
taking carrier s (Some r) = serving carrier s r

clearing : (carrier : Carrier) (head : ℕ) → carries (once_cleared carrier head) ≡ true
clearing Carrier.Locker head = refl
clearing (Carrier.Releaser releaser) head = point_if (nat_eq head 0) _ _ refl refl
clearing (Carrier.Reclaimer releaser) head = refl
clearing Carrier.Sender head = refl

flat_keeps : (d t ps s n : ℕ) (o : Option Record) (q : Point) → gives_at q ≡ false → carries q ≡ true → carries_value (stepped_by (made_of d t ps q) s n o).seat ≡ true
flat_keeps d t ps s n o TryCountAdd keeps e = carries_at d (EnterOwnerStore Entrant.Trier How.Free) refl
flat_keeps d t ps s n o (TakeClearHead carrier) keeps e = carries_at d _ (clearing carrier (link_of n).next)
flat_keeps d t ps s n o (TakeLinkLoad carrier next) keeps e = carries_at d _ (point_if (nat_eq (link_of n).next 0) _ _ (serving carrier s _) refl)
flat_keeps d t ps s n o (EnterOwnerStore entrant how) keeps e = refl
flat_keeps d t ps s n o (ReceiveWakeStore stamp) keeps e = carries_at d (EnterOwnerStore Entrant.Receiver (how_granted stamp)) refl
flat_keeps d t ps s n o (ReleaseCountSubtract r) keeps e = absurd (false≢true (sym keeps))
flat_keeps d t ps s n o (ReleaseHandoffStore r) keeps e = absurd (false≢true (sym keeps))
flat_keeps d t ps s n o (GrantWakeStore carrier oldest) keeps e = absurd (false≢true (sym keeps))
flat_keeps d t ps s n o (SendWakeStore u) keeps e = absurd (false≢true (sym keeps))
flat_keeps d t ps s n o _ keeps e = absurd (false≢true e)

at_zero : (x : SeatState) → x.depth ≡ 0 → carries_value x ≡ true → carries x.point ≡ true
at_zero x z e = rw (eq-eqb x.depth 0 z) at e

pub keeps_value : (x : SeatState) (s n : ℕ) (o : Option Record) → gives_at x.point ≡ false → carries_value x ≡ true → carries_value (stepped_by x s n o).seat ≡ true
keeps_value x s n o keeps e =
    elim (release_of x.point) [
      | inl r ↦ (released x s n o r.0 r.1).0
      | inr other ↦ elim (cases_eq x.depth 0) [
        | inl z ↦ flat_keeps x.depth x.takes x.posts s n o x.point keeps (at_zero x z e)
        | inr some ↦ nonzero_carries (stepped_by x s n o).seat (λ f. some ((shallow_step x s n o other).0 f))
      ]
    ]

-- The oldest record

carry_else : (b : Bool) (r u v : Stepped) → carries_value u.seat ≡ carries_value v.seat → carries_value (if b then r else u).seat ≡ carries_value (if b then r else v).seat
carry_else true r u v same = refl
carry_else false r u v same = same

carry_then : (b : Bool) (r u v : Stepped) → carries_value u.seat ≡ carries_value v.seat → carries_value (if b then u else r).seat ≡ carries_value (if b then v else r).seat
carry_then true r u v same = same
carry_then false r u v same = refl

take_carries : (d : ℕ) (carrier : Carrier) (s : ℕ) (o u : Option Record) → (if nat_eq d 0 then carries (take carrier s o) else true) ≡ (if nat_eq d 0 then carries (take carrier s u) else true)
take_carries d carrier s o u = carries_at d (take carrier s o) (taking carrier s o) ∙ sym (carries_at d (take carrier s u) (taking carrier s u))

carries_unread_at : (d t ps s n : ℕ) (o u : Option Record) (q : Point) → carries_value (stepped_by (made_of d t ps q) s n o).seat ≡ carries_value (stepped_by (made_of d t ps q) s n u).seat
carries_unread_at d t ps s n o u (ReleaseCountSubtract r) =
    let x = made_of d t ps (ReleaseCountSubtract r) in
    carry_else (nat_eq n 1) _ (goes_on x (take (Carrier.Releaser r) s o)) (goes_on x (take (Carrier.Releaser r) s u)) (take_carries d (Carrier.Releaser r) s o u)
carries_unread_at d t ps s n o u (PushedHandoffExchange pusher seen) =
    let x = made_of d t ps (PushedHandoffExchange pusher seen) in
    carry_then (same_handoff (handoff_of n) seen) (pushed x pusher) (goes_on x (take (carrier_of pusher) s o)) (goes_on x (take (carrier_of pusher) s u)) (take_carries d (carrier_of pusher) s o u)
carries_unread_at d t ps s n o u (ReleaseHandoffExchange r) =
    let x = made_of d t ps (ReleaseHandoffExchange r) in
    carry_then (same_handoff (handoff_of n) (record { seat = s; post = ps })) (releases x r Unlocked.TakenOver) (goes_on x (take (Carrier.Reclaimer r) s o)) (goes_on x (take (Carrier.Reclaimer r) s u))
    (take_carries d (Carrier.Reclaimer r) s o u)
carries_unread_at d t ps s n o u _ = refl

-- whether the seat carries the value after its step does not depend on the pop list
pub carries_unread : (x : SeatState) (s n : ℕ) (o u : Option Record) → carries_value (stepped_by x s n o).seat ≡ carries_value (stepped_by x s n u).seat
carries_unread x s n o u = carries_unread_at x.depth x.takes x.posts s n o u x.point

unread_else : (b : Bool) (x : SeatState) (p q : Point) (r : Stepped) → carries p ≡ true → carries_value (if b then r else goes_on x p).seat ≡ false
    → (if b then r else goes_on x p) ≡ (if b then r else goes_on x q)
unread_else true x p q r taken none = refl
unread_else false x p q r taken none = absurd (false≢true (sym none ∙ carries_at x.depth p taken))

unread_then : (b : Bool) (x : SeatState) (p q : Point) (r : Stepped) → carries p ≡ true → carries_value (if b then goes_on x p else r).seat ≡ false
    → (if b then goes_on x p else r) ≡ (if b then goes_on x q else r)
unread_then true x p q r taken none = absurd (false≢true (sym none ∙ carries_at x.depth p taken))
unread_then false x p q r taken none = refl

unread_after_at : (d t ps s n : ℕ) (o u : Option Record) (q : Point) → carries_value (stepped_by (made_of d t ps q) s n o).seat ≡ false → stepped_by (made_of d t ps q) s n o ≡ stepped_by (made_of d t ps q) s n u
unread_after_at d t ps s n o u (ReleaseCountSubtract r) none =
    let x = made_of d t ps (ReleaseCountSubtract r) in
    unread_else (nat_eq n 1) x (take (Carrier.Releaser r) s o) (take (Carrier.Releaser r) s u) (releases x r Unlocked.Free) (taking (Carrier.Releaser r) s o) none
unread_after_at d t ps s n o u (PushedHandoffExchange pusher seen) none =
    let x = made_of d t ps (PushedHandoffExchange pusher seen) in
    unread_then (same_handoff (handoff_of n) seen) x (take (carrier_of pusher) s o) (take (carrier_of pusher) s u) (pushed x pusher) (taking (carrier_of pusher) s o) none
unread_after_at d t ps s n o u (ReleaseHandoffExchange r) none =
    let x = made_of d t ps (ReleaseHandoffExchange r) in
    unread_then (same_handoff (handoff_of n) (record { seat = s; post = ps })) x (take (Carrier.Reclaimer r) s o) (take (Carrier.Reclaimer r) s u) (releases x r Unlocked.TakenOver) (taking (Carrier.Reclaimer r) s o) none
unread_after_at d t ps s n o u _ none = refl

-- a seat that does not carry the value after its step has not read the pop list
pub unread_after : (x : SeatState) (s n : ℕ) (o u : Option Record) → carries_value (stepped_by x s n o).seat ≡ false → stepped_by x s n o ≡ stepped_by x s n u
unread_after x s n o u none = unread_after_at x.depth x.takes x.posts s n o u x.point none

-- the kinds whose steps may read the oldest record
abbrev pub reads : Option Kind → Bool
reads (Some Kind.CountSubtract) = true
reads (Some Kind.HandoffExchange) = true
reads _ = false

reads_by : (x : SeatState) (s n : ℕ) (o u : Option Record) (k : Option Kind) → (reads k ≡ true → o ≡ u) → stepped_of x s n o k ≡ stepped_of x s n u k
reads_by x s n o u (Some Kind.CountSubtract) same = ap (λ r. stepped_of x s n r (Some Kind.CountSubtract)) (same refl)
reads_by x s n o u (Some Kind.HandoffExchange) same = ap (λ r. stepped_of x s n r (Some Kind.HandoffExchange)) (same refl)
reads_by x s n o u _ same = refl

pub same_oldest : (x : SeatState) (s n : ℕ) (o u : Option Record) → (reads (kind x.point) ≡ true → o ≡ u) → stepped_by x s n o ≡ stepped_by x s n u
same_oldest x s n o u same = reads_by x s n o u (kind x.point) same

-- The pop list in hand

list_parts_at : (d t ps s n : ℕ) (l : List Record) (q : Point) → add_by (kind q) (target q s) n (popped_if (drops_oldest_at q) l) ≡ popped_by_step (made_of d t ps q) s n l
list_parts_at d t ps s n l (EnterOwnerStore Entrant.Locker (How.Queued stamp)) = refl
list_parts_at d t ps s n l (EnterOwnerStore entrant how) = refl
list_parts_at d t ps s n l (GrantWakeStore carrier oldest) = refl
list_parts_at d t ps s n l (TakeLinkLoad carrier next) = refl
list_parts_at d t ps s n l _ = refl

-- the record taken out before the step and the record added after it are what the step does to the pop list
pub list_parts : (x : SeatState) (s n : ℕ) (l : List Record) → add_by (kind x.point) (target x.point s) n (popped_if (drops_oldest x) l) ≡ popped_by_step x s n l
list_parts x s n l = list_parts_at x.depth x.takes x.posts s n l x.point

pub gives_adds_none : (q : Point) (t n : ℕ) (l : List Record) → gives_at q ≡ true → add_by (kind q) t n l ≡ l
gives_adds_none (ReleaseCountSubtract r) t n l e = refl
gives_adds_none (ReleaseHandoffStore r) t n l e = refl
gives_adds_none (GrantWakeStore carrier oldest) t n l e = refl
gives_adds_none (SendWakeStore u) t n l e = refl
gives_adds_none _ t n l e = absurd (false≢true e)

reads_list_at : (q : Point) (t n : ℕ) (l : List Record) → reads (kind q) ≡ true → add_by (kind q) t n (popped_if (drops_oldest_at q) l) ≡ l
reads_list_at LockCountSubtract t n l e = refl
reads_list_at (ReleaseCountSubtract r) t n l e = refl
reads_list_at (TryHandoffExchange seen) t n l e = refl
reads_list_at (PushedHandoffExchange pusher seen) t n l e = refl
reads_list_at (ReleaseHandoffExchange r) t n l e = refl
reads_list_at _ t n l e = absurd (false≢true e)

-- a step that reads the oldest record does not change the pop list
pub reads_list : (q : Point) (t n : ℕ) (l : List Record) → reads (kind q) ≡ true → add_by (kind q) t n (popped_if (drops_oldest_at q) l) ≡ l
reads_list q t n l e = reads_list_at q t n l e

pub gives_not_release : (q : Point) → gives_at q ≡ true → (r : Releaser) → q ≢ ReleaseOwnerStore r
gives_not_release (ReleaseOwnerStore u) e r f = false≢true e
gives_not_release _ e r f = cc

-- The start of a call neither gains the value nor gives it away

abbrev Keeps : SeatState → Stepped → Type 0
Keeps p st = carries_value st.seat ≡ carries_value p

keep_if : (p : SeatState) (t : Bool) (u v : Stepped) → Keeps p u → (t ≡ false → Keeps p v) → Keeps p (if t then u else v)
keep_if p true u v first second = first
keep_if p false u v first second = second refl

keep_charges : (d t ps budget : ℕ) (q : Point) → carries q ≡ false → Keeps (made_of d t ps Rest) (charges (made_of d t ps Rest) budget q)
keep_charges d t ps budget q none =
    keep_if (made_of d t ps Rest) (nat_lt t budget) _ _ (ap (λ (b : Bool). if nat_eq d 0 then b else true) none) (λ e. refl)

keep_entry : (d t ps budget : ℕ) (q : Point) → carries q ≡ false → Keeps (made_of d t ps Rest) (Begin.begin_entry (made_of d t ps Rest) budget q)
keep_entry d t ps budget q none =
    let p = made_of d t ps Rest in
    keep_if p (nat_lt 65534 d) (refuses p _) _ refl (λ e. keep_if p (nat_eq d 0) (charges p budget q) (goes_on p q) (keep_charges d t ps budget q none) (λ f. ap (λ (b : Bool). if nat_eq d 0 then b else true) none))

keep_lowered : (d t ps : ℕ) → nat_eq d 0 ≡ false → nat_eq d 1 ≡ false → carries_value (made_of (d - 1) t ps Rest) ≡ carries_value (made_of d t ps Rest)
keep_lowered zero t ps none one = refl
keep_lowered (suc zero) t ps none one = absurd (cc)
keep_lowered (suc (suc n)) t ps none one = nonzero_carries (made_of (suc (suc n) - 1) t ps Rest) (λ e. omega (arith, e)) ∙ sym (nonzero_carries (made_of (suc (suc n)) t ps Rest) (λ e. omega (arith, e)))

keep_awake : (d t ps : ℕ) (l : Limits) (call : Call) → Keeps (made_of d t ps Rest) (begin_awake (made_of d t ps Rest) l call)
keep_awake d t ps l Lock = keep_entry d t ps l.budget LockCountAdd refl
keep_awake d t ps l TryLock = keep_entry d t ps l.budget TryCountExchange refl
keep_awake d t ps l Unlock =
    let p = made_of d t ps Rest in
    keep_if p (nat_eq d 0) (refuses p _) _ refl (λ e. keep_if p (nat_eq d 1) (goes_on p (ReleaseOwnerStore Unlocker)) _ refl (λ f. keep_lowered d t ps e f))
keep_awake d t ps l StartWait =
    let p = made_of d t ps Rest in
    keep_if p (nat_eq d 0) (refuses p _) _ refl (λ e. keep_if p (nat_lt 1 d) (refuses p _) _ refl (λ f. keep_charges d t ps l.budget (ReleaseOwnerStore Waiter) refl))
keep_awake d t ps l (SendLock u) =
    let p = made_of d t ps Rest in keep_if p (nat_lt 0 u && nat_lt u (l.seats + 1)) (goes_on p (SendWakeExchange u)) _ refl (λ e. refl)
keep_awake d t ps l Receive = refl

keep_asleep : (d t ps : ℕ) (l : Limits) (sleeper : Sleeper) (call : Call) → Keeps (made_of d t ps (Asleep sleeper)) (begin_asleep (made_of d t ps (Asleep sleeper)) sleeper call)
keep_asleep d t ps l sleeper Receive = refl
keep_asleep d t ps l sleeper _ = refl

keep_begin : (d t ps : ℕ) (l : Limits) (call : Call) (q : Point) → Keeps (made_of d t ps q) (begin_at (made_of d t ps q) l call q)
keep_begin d t ps l call Rest = keep_awake d t ps l call
keep_begin d t ps l call (Asleep sleeper) = keep_asleep d t ps l sleeper call
keep_begin d t ps l call _ = refl

pub begin_keeps : (p : SeatState) (l : Limits) (call : Call) → (carries_value (Begin.begin p l call).seat ≡ carries_value p) × ((Begin.begin p l call).seat.depth ≡ 0 → p.depth ≡ 0)
begin_keeps p l call = (keep_begin p.depth p.takes p.posts l call p.point, begin_depth p l call p.point)
