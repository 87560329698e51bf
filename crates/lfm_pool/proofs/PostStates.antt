-- How steps and starts of calls change what a seat knows of posts: only a step on the handoff word does.
use Rattle.std.proofs.Common.{◌≡◌, ◌≢◌, ℕ, ◌+◌, List, [], ◌∷◌, nat_eq, nat_lt, if◌then◌else◌, refl, sym, ap, ◌∙◌, Option, Some, None}
use Rattle.std.specs.Prelude.{Bool, true, false, ◌&&◌}
use Rattle.std.proofs.lemmas.Bool.{false≢true}
use Rattle.lfm_model.specs.declared.answers.Unlocked.{Unlocked}
use Rattle.lfm_words.specs.declared.handoffs.Handoff.{Handoff}
use Rattle.lfm_words.specs.declared.pop_lists.Record.{Record}
use Rattle.lfm_words.specs.declared.wakes.Wake.{Wake}
use Rattle.lfm_words.specs.declared.wakes.Wake.TheVariants.{Waiting, Grant}
use Rattle.lfm_protocol.specs.declared.answers.Call.{Call}
use Rattle.lfm_protocol.specs.declared.answers.Call.TheVariants.{Lock, TryLock, Unlock, StartWait, SendLock, Receive}
use Rattle.lfm_protocol.specs.declared.kinds.Kind.{Kind}
use Rattle.lfm_protocol.specs.declared.limits.Limits.{Limits}
use Rattle.lfm_protocol.specs.declared.points.Carrier.{Carrier}
use Rattle.lfm_protocol.specs.declared.points.Point.{Point}
use Rattle.lfm_protocol.specs.declared.points.Point.TheVariants.{Rest, Asleep, LockCountAdd, LockOwnerLoad, LockCountSubtract, TryCountExchange, TryOwnerLoad, TryHandoffLoad, TryHandoffExchange, TryCountAdd, SendWakeExchange, SendCountAdd, SendPushRecheck, SendWakeStore, PushLoad, LinkStore, PushExchange, PushedHandoffLoad, PushedHandoffExchange, ReleaseOwnerStore, ReleaseCountSubtract, ReleaseHandoffStore, ReleasePushRecheck, ReleaseHandoffExchange, WaitWakeStore, TakeClearHead, TakeLinkLoad, GrantWakeStore, EnterOwnerStore, ReceiveWakeLoad, ReceiveWakeStore}
use Rattle.lfm_protocol.specs.declared.points.Pusher.{Pusher}
use Rattle.lfm_protocol.specs.declared.points.Releaser.{Releaser}
use Rattle.lfm_protocol.specs.declared.points.Releaser.TheVariants.{Unlocker, Waiter}
use Rattle.lfm_protocol.specs.declared.points.Sleeper.{Sleeper}
use Rattle.lfm_protocol.specs.declared.seats.SeatState.{SeatState}
use Rattle.lfm_protocol.specs.After.{same_link, claims, granted, once_cleared, receives, releases, serves, take}
use Rattle.lfm_protocol.specs.Begin.{Stepped, begin_awake, begin_entry}
use Rattle.lfm_protocol.specs.Begin as Begin
use Rattle.lfm_protocol.specs.Points.{kind, target}
use Rattle.lfm_laws.specs.table.Settles.{begun}
use Rattle.lfm_laws.specs.table.Words.{index_by, stepped_by, wake_of, link_of}
use Rattle.lfm_table.specs.Settled.{Became, calls_to}
use Rattle.lfm_table.proofs.tables.StepFacts.{made_of}
use Rattle.lfm_pool.specs.Posts.{KeepsPost, has_posted, loaded_post}

-- what the data of a seat say of its posts
abbrev pub PostState : Type 0
PostState = ℕ × Option Handoff × Bool

abbrev pub post_state : SeatState → PostState
post_state x = (x.posts, loaded_post x.point, has_posted x.point)

-- the seat has made this many posts, has loaded none, and may take none back
abbrev Plain : ℕ → Stepped → Type 0
Plain ps st = ◌≡◌ {A = PostState} (post_state st.seat) (ps, None, false)

plain_if : (b : Bool) (ps : ℕ) (u v : Stepped) → Plain ps u → Plain ps v → Plain ps (if b then u else v)
plain_if true ps u v first second = first
plain_if false ps u v first second = second

-- the same of the point alone
abbrev PlainAt : Point → Type 0
PlainAt q = ◌≡◌ {A = Option Handoff × Bool} (loaded_post q, has_posted q) (None, false)

at_if : (b : Bool) (p q : Point) → PlainAt p → PlainAt q → PlainAt (if b then p else q)
at_if true p q first second = first
at_if false p q first second = second

plain_at : (d t ps : ℕ) (q : Point) → PlainAt q → ◌≡◌ {A = PostState} (post_state (made_of d t ps q)) (ps, None, false)
plain_at d t ps q e = λ i. (ps, (e i).0, (e i).1)

at_serves : (carrier : Carrier) (s : ℕ) (r : Record) → PlainAt (serves carrier s r)
at_serves Carrier.Locker s r = at_if (nat_eq r.seat s) _ _ refl refl
at_serves (Carrier.Releaser releaser) s r = refl
at_serves (Carrier.Reclaimer releaser) s r = refl
at_serves Carrier.Sender s r = refl

pub at_take : (carrier : Carrier) (s : ℕ) (o : Option Record) → PlainAt (take carrier s o)
at_take carrier s None = refl
at_take carrier s (Some r) = at_serves carrier s r

at_cleared : (carrier : Carrier) (head : ℕ) → PlainAt (once_cleared carrier head)
at_cleared Carrier.Locker head = refl
at_cleared (Carrier.Releaser releaser) head = at_if (nat_eq head 0) _ _ refl refl
at_cleared (Carrier.Reclaimer releaser) head = refl
at_cleared Carrier.Sender head = refl

pub plain_releases : (d t ps : ℕ) (q : Point) (r : Releaser) (answer : Unlocked) → Plain ps (releases (made_of d t ps q) r answer)
plain_releases d t ps q Unlocker answer = refl
plain_releases d t ps q Waiter answer = refl

plain_granted : (d t ps : ℕ) (q : Point) (carrier : Carrier) (r : Record) → Plain ps (granted (made_of d t ps q) carrier r)
plain_granted d t ps q Carrier.Locker r = refl
plain_granted d t ps q (Carrier.Releaser releaser) r = plain_releases d t ps q releaser (Unlocked.Granted r.seat)
plain_granted d t ps q (Carrier.Reclaimer releaser) r = plain_releases d t ps q releaser (Unlocked.Granted r.seat)
plain_granted d t ps q Carrier.Sender r = refl

plain_claims : (d t ps : ℕ) (q : Point) (u : ℕ) (w : Wake) → Plain ps (claims (made_of d t ps q) u w)
plain_claims d t ps q u Waiting = refl
plain_claims d t ps q u _ = refl

plain_receives : (d t ps : ℕ) (q : Point) (sleeper : Sleeper) (w : Wake) → Plain ps (receives (made_of d t ps q) sleeper w)
plain_receives d t ps q sleeper (Grant stamp) = refl
plain_receives d t ps q sleeper _ = refl

-- a step at this point is one on the handoff word
abbrev pub is_at_handoff : Point → Bool
is_at_handoff TryHandoffLoad = true
is_at_handoff (TryHandoffExchange seen) = true
is_at_handoff (PushedHandoffLoad pusher) = true
is_at_handoff (PushedHandoffExchange pusher seen) = true
is_at_handoff (ReleaseHandoffStore releaser) = true
is_at_handoff (ReleaseHandoffExchange releaser) = true
is_at_handoff _ = false

-- the data of a seat that has made another step than one on the handoff word
abbrev Follows : ℕ → Point → Stepped → Type 0
Follows ps q st = (st.seat.posts ≡ ps) × (loaded_post st.seat.point ≡ None) × (has_posted st.seat.point ≡ true → has_posted q ≡ true)

follows : (ps : ℕ) (q : Point) (st : Stepped) → Plain ps st → Follows ps q st
follows ps q st plain = (ap (λ (z : PostState). z.0) plain, ap (λ (z : PostState). z.1) plain, λ e. absurd (false≢true (sym (ap (λ (z : PostState). z.2) plain) ∙ e)))

module _ (d t ps s n : ℕ) (o : Option Record) (q : Point) where
  after_plain : Plain ps (stepped_by (made_of d t ps q) s n o) → Follows ps q (stepped_by (made_of d t ps q) s n o)
  after_plain plain = follows ps q (stepped_by (made_of d t ps q) s n o) plain

  after_if : (b : Bool) → (b ≡ true → Plain ps (stepped_by (made_of d t ps q) s n o)) → (b ≡ false → Plain ps (stepped_by (made_of d t ps q) s n o)) → Follows ps q (stepped_by (made_of d t ps q) s n o)
  after_if true f g = after_plain (f refl)
  after_if false f g = after_plain (g refl)

recheck : (d t ps s n : ℕ) (o : Option Record) (r : Releaser) (b : Bool) → nat_eq (link_of n).next 0 ≡ b → Follows ps (ReleasePushRecheck r) (stepped_by (made_of d t ps (ReleasePushRecheck r)) s n o)
recheck d t ps s n o r true e = after_plain d t ps s n o (ReleasePushRecheck r) (rw e (plain_releases d t ps (ReleasePushRecheck r) r Unlocked.Posted))
recheck d t ps s n o r false e = rw e (refl, refl, λ f. refl)

after_other : (d t ps s n : ℕ) (o : Option Record) (q : Point) → is_at_handoff q ≡ false → Follows ps q (stepped_by (made_of d t ps q) s n o)
after_other d t ps s n o Rest other = after_plain d t ps s n o Rest refl
after_other d t ps s n o (Asleep sleeper) other = after_plain d t ps s n o (Asleep sleeper) refl
after_other d t ps s n o LockCountAdd other = after_if d t ps s n o LockCountAdd (nat_eq n 0) (λ e. rw e refl) (λ e. rw e refl)
after_other d t ps s n o LockOwnerLoad other = after_if d t ps s n o LockOwnerLoad (nat_eq n s) (λ e. rw e refl) (λ e. rw e refl)
after_other d t ps s n o LockCountSubtract other = after_plain d t ps s n o LockCountSubtract refl
after_other d t ps s n o TryCountExchange other = after_if d t ps s n o TryCountExchange (nat_eq n 0) (λ e. rw e refl) (λ e. rw e refl)
after_other d t ps s n o TryOwnerLoad other = after_if d t ps s n o TryOwnerLoad (nat_eq n s) (λ e. rw e refl) (λ e. rw e refl)
after_other d t ps s n o TryCountAdd other = after_plain d t ps s n o TryCountAdd refl
after_other d t ps s n o (SendWakeExchange u) other = after_plain d t ps s n o (SendWakeExchange u) (plain_claims d t ps (SendWakeExchange u) u (wake_of n))
after_other d t ps s n o (SendCountAdd u) other = after_if d t ps s n o (SendCountAdd u) (nat_eq n 0) (λ e. rw e refl) (λ e. rw e refl)
after_other d t ps s n o (SendPushRecheck u seen) other = after_if d t ps s n o (SendPushRecheck u seen) (nat_eq (link_of n).next 0) (λ e. rw e refl) (λ e. rw e refl)
after_other d t ps s n o (SendWakeStore u) other = after_plain d t ps s n o (SendWakeStore u) refl
after_other d t ps s n o (PushLoad pusher) other = after_plain d t ps s n o (PushLoad pusher) refl
after_other d t ps s n o (LinkStore pusher seen) other = after_plain d t ps s n o (LinkStore pusher seen) refl
after_other d t ps s n o (PushExchange pusher seen) other = after_if d t ps s n o (PushExchange pusher seen) (same_link (link_of n) seen) (λ e. rw e refl) (λ e. rw e refl)
after_other d t ps s n o (ReleaseOwnerStore r) other = after_plain d t ps s n o (ReleaseOwnerStore r) refl
after_other d t ps s n o (ReleaseCountSubtract r) other =
    after_if d t ps s n o (ReleaseCountSubtract r) (nat_eq n 1) (λ e. rw e (plain_releases d t ps (ReleaseCountSubtract r) r Unlocked.Free)) (λ e. rw e (plain_at d t ps (take (Carrier.Releaser r) s o) (at_take (Carrier.Releaser r) s o)))
after_other d t ps s n o (ReleasePushRecheck r) other = recheck d t ps s n o r (nat_eq (link_of n).next 0) refl
after_other d t ps s n o (WaitWakeStore released) other = after_plain d t ps s n o (WaitWakeStore released) refl
after_other d t ps s n o (TakeClearHead carrier) other = after_plain d t ps s n o (TakeClearHead carrier) (plain_at d t ps (once_cleared carrier (link_of n).next) (at_cleared carrier (link_of n).next))
after_other d t ps s n o (TakeLinkLoad carrier next) other =
    after_if d t ps s n o (TakeLinkLoad carrier next) (nat_eq (link_of n).next 0)
    (λ e. rw e (plain_at d t ps (serves carrier s (record { seat = next; stamp = (link_of n).stamp })) (at_serves carrier s (record { seat = next; stamp = (link_of n).stamp })))) (λ e. rw e refl)
after_other d t ps s n o (GrantWakeStore carrier r) other = after_plain d t ps s n o (GrantWakeStore carrier r) (plain_granted d t ps (GrantWakeStore carrier r) carrier r)
after_other d t ps s n o (EnterOwnerStore entrant how) other = after_plain d t ps s n o (EnterOwnerStore entrant how) refl
after_other d t ps s n o (ReceiveWakeLoad sleeper) other = after_plain d t ps s n o (ReceiveWakeLoad sleeper) (plain_receives d t ps (ReceiveWakeLoad sleeper) sleeper (wake_of n))
after_other d t ps s n o (ReceiveWakeStore stamp) other = after_plain d t ps s n o (ReceiveWakeStore stamp) refl
after_other d t ps s n o _ other = absurd (false≢true (sym other))

unloaded : (q : Point) → is_at_handoff q ≡ false → loaded_post q ≡ None
unloaded (PushedHandoffExchange Pusher.Locker seen) other = absurd (false≢true (sym other))
unloaded (TryHandoffExchange seen) other = absurd (false≢true (sym other))
unloaded _ other = refl

pub keeps_stepped : (p : SeatState) (s n : ℕ) (o : Option Record) → is_at_handoff p.point ≡ false → KeepsPost p (stepped_by p s n o).seat
keeps_stepped p s n o other =
    let f = after_other p.depth p.takes p.posts s n o p.point other in
    record { posts = f.0; loaded = f.1 ∙ sym (unloaded p.point other); posted = f.2 }

-- Starts of calls

-- the data of a seat after the start of a call say the same of its posts
abbrev Begins : ℕ → ℕ → ℕ → Limits → Call → Point → Type 0
Begins d t ps l call q = ◌≡◌ {A = PostState} (post_state (Begin.begin (made_of d t ps q) l call).seat) (post_state (made_of d t ps q))

begin_entry_plain : (d t ps budget : ℕ) (q : Point) → PlainAt q → Plain ps (begin_entry (made_of d t ps Rest) budget q)
begin_entry_plain d t ps budget q plain =
    plain_if (nat_lt 65534 d) ps _ _ refl (plain_if (nat_eq d 0) ps _ _ (plain_if (nat_lt t budget) ps _ _ (plain_at d (t + 1) ps q plain) refl) (plain_at d t ps q plain))

begin_awake_plain : (d t ps : ℕ) (l : Limits) (call : Call) → Plain ps (begin_awake (made_of d t ps Rest) l call)
begin_awake_plain d t ps l Lock = begin_entry_plain d t ps l.budget LockCountAdd refl
begin_awake_plain d t ps l TryLock = begin_entry_plain d t ps l.budget TryCountExchange refl
begin_awake_plain d t ps l Unlock = plain_if (nat_eq d 0) ps _ _ refl (plain_if (nat_eq d 1) ps _ _ refl refl)
begin_awake_plain d t ps l StartWait = plain_if (nat_eq d 0) ps _ _ refl (plain_if (nat_lt 1 d) ps _ _ refl (plain_if (nat_lt t l.budget) ps _ _ refl refl))
begin_awake_plain d t ps l (SendLock u) = plain_if (nat_lt 0 u && nat_lt u (l.seats + 1)) ps _ _ refl refl
begin_awake_plain d t ps l Receive = refl

begins_same : (d t ps : ℕ) (l : Limits) (call : Call) (q : Point) → Begins d t ps l call q
begins_same d t ps l call Rest = begin_awake_plain d t ps l call
begins_same d t ps l Receive (Asleep sleeper) = refl
begins_same d t ps l _ (Asleep sleeper) = refl
begins_same d t ps l call _ = refl

begun_same : (x : SeatState) (l : Limits) (calls : List Call) → ◌≡◌ {A = PostState} (post_state (begun x l calls)) (post_state x)
begun_same x l [] = refl
begun_same x l (call ∷ calls) =
    let y = begun x l calls in begins_same y.depth y.takes y.posts l call y.point ∙ begun_same x l calls

pub became_same : (x : SeatState) (l : Limits) (p : SeatState) → Became x l p → ◌≡◌ {A = PostState} (post_state p) (post_state x)
became_same x l p became = ap post_state became.leads ∙ begun_same x l (calls_to x p)

pub keeps_became : (x : SeatState) (l : Limits) (p y : SeatState) → Became x l p → KeepsPost p y → KeepsPost x y
keeps_became x l p y became kept =
    let e = became_same x l p became in record {
      posts = kept.posts ∙ ap (λ (z : PostState). z.0) e;
      loaded = kept.loaded ∙ ap (λ (z : PostState). z.1) e;
      posted = λ f. sym (ap (λ (z : PostState). z.2) e) ∙ kept.posted f;
    }

pub keeps_same : (x : SeatState) → KeepsPost x x
keeps_same x = record { posts = refl; loaded = refl; posted = λ e. e }

-- which steps are on the handoff word
pub is_other : (seats number : ℕ) (q : Point) (k : Kind) → kind q ≡ Some k → index_by seats (target q number) (Some k) ≢ 2 → is_at_handoff q ≡ false
is_other seats number TryHandoffLoad k is other = let e : Kind.HandoffLoad ≡ k = cc in absurd (other (ap (λ (j : Kind). index_by seats number (Some j)) (sym e)))
is_other seats number (TryHandoffExchange seen) k is other = let e : Kind.HandoffExchange ≡ k = cc in absurd (other (ap (λ (j : Kind). index_by seats number (Some j)) (sym e)))
is_other seats number (PushedHandoffLoad pusher) k is other = let e : Kind.HandoffLoad ≡ k = cc in absurd (other (ap (λ (j : Kind). index_by seats number (Some j)) (sym e)))
is_other seats number (PushedHandoffExchange pusher seen) k is other = let e : Kind.HandoffExchange ≡ k = cc in absurd (other (ap (λ (j : Kind). index_by seats number (Some j)) (sym e)))
is_other seats number (ReleaseHandoffStore r) k is other = let e : Kind.HandoffStore ≡ k = cc in absurd (other (ap (λ (j : Kind). index_by seats number (Some j)) (sym e)))
is_other seats number (ReleaseHandoffExchange r) k is other = let e : Kind.HandoffExchange ≡ k = cc in absurd (other (ap (λ (j : Kind). index_by seats number (Some j)) (sym e)))
is_other seats number _ k is other = refl
