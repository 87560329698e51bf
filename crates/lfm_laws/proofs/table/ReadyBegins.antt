-- A seat that is ready for its next step stays ready when calls begin: this depends only on its own data.
use Rattle.std.proofs.Common.{◌≡◌, ℕ, true, false, ◌+◌, ◌-◌, ◌<◌, ◌≤◌, ◌&&◌, ltb, nat_lt, nat_eq, Bool, List, [], ◌∷◌, refl, arith, if◌then◌else◌}
use Rattle.std.proofs.lemmas.Bool.{and_parts, ltb-true}
use Rattle.lfm_protocol.specs.declared.answers.Answer.TheVariants as Answer
use Rattle.lfm_protocol.specs.declared.answers.Call.{Call}
use Rattle.lfm_protocol.specs.declared.answers.Call.TheVariants.{Lock, TryLock, Unlock, StartWait, SendLock, Receive}
use Rattle.lfm_protocol.specs.declared.answers.Turn.TheVariants.{Open, Ended}
use Rattle.lfm_protocol.specs.declared.limits.Limits.{Limits}
use Rattle.lfm_protocol.specs.declared.points.Point.{Point}
use Rattle.lfm_protocol.specs.declared.points.Point.TheVariants.{Rest, Asleep, LockCountAdd, TryCountExchange, SendWakeExchange, ReleaseOwnerStore, ReceiveWakeLoad}
use Rattle.lfm_protocol.specs.declared.points.Releaser.TheVariants.{Unlocker, Waiter}
use Rattle.lfm_protocol.specs.declared.points.Sleeper.{Sleeper}
use Rattle.lfm_protocol.specs.declared.seats.SeatState.{SeatState}
use Rattle.lfm_model.specs.declared.answers.Unlocked.TheVariants as Unlocked
use Rattle.lfm_model.specs.declared.refusals.Refusal.TheVariants as Refusal
use Rattle.lfm_words.specs.declared.wakes.Wake.TheVariants.{Quiet}
use Rattle.lfm_protocol.specs.Begin as Begin
use Rattle.lfm_protocol.specs.Begin.{Stepped, goes_on}
use Rattle.lfm_protocol.specs.Points.{target}
use Rattle.lfm_protocol.specs.Room.{HasNumbers}
use Rattle.lfm_protocol.specs.Seats.{no_link, unposted}
use Rattle.lfm_laws.specs.table.Settles.{begun, Settles}
use Rattle.lfm_protocol.specs.Stores.{stored_link_at, expected_push_at, exchanged_push_at, stored_handoff_at, expected_handoff_at, stored_wake_at}
use Rattle.lfm_laws.specs.table.Ready.{IsReady}
use Rattle.lfm_laws.proofs.table.Ready.{packs_none, packs_unposted}

-- a seat at a point that stores and expects nothing
plain : (seats s depth takes posts : ℕ) (p : Point) → HasNumbers (record { depth = depth; takes = takes; posts = posts; point = p }) p
    → 0 < target p s → target p s ≤ seats → stored_link_at p ≡ no_link → expected_push_at p ≡ no_link → exchanged_push_at s p ≡ no_link
    → stored_handoff_at (record { depth = depth; takes = takes; posts = posts; point = p }) s p ≡ unposted
    → expected_handoff_at (record { depth = depth; takes = takes; posts = posts; point = p }) s p ≡ unposted → stored_wake_at p ≡ Quiet
    → IsReady seats s (record { depth = depth; takes = takes; posts = posts; point = p })
plain seats s depth takes posts p numbers above within link push pushed stored expected wake =
    record {
      numbers = numbers;
      above = above;
      within = within;
      stored_link = rw link packs_none;
      expected_push = rw push packs_none;
      exchanged_push = rw pushed packs_none;
      stored_handoff = rw stored packs_unposted;
      expected_handoff = rw expected packs_unposted;
      stored_wake = rw wake tt;
    }

abbrev ReadyStep : ℕ → ℕ → Stepped → Type 0
ReadyStep seats s m = IsReady seats s m.seat

ready_if : (seats s : ℕ) (b : Bool) (m k : Stepped) → (b ≡ true → ReadyStep seats s m) → ReadyStep seats s k → ReadyStep seats s (if b then m else k)
ready_if seats s true m k first second = first refl
ready_if seats s false m k first second = second

abbrev charged : SeatState → Point → Stepped
charged x p =
    record {
      seat = record x { point = p; takes = x.takes + 1 };
      turn = Open;
    }

abbrev lowered : SeatState → Stepped
lowered x =
    record {
      seat = record x { depth = x.depth - 1 };
      turn = Ended (Answer.Unlocked (Unlocked.Still (x.depth - 1)));
    }

-- Calls of seat s with state x

module _ (l : Limits) (s : ℕ) (x : SeatState) (above : 0 < s) (within : s ≤ l.seats) (ready : IsReady l.seats s x) where
  at_lock : (takes : ℕ) → IsReady l.seats s (record x { point = LockCountAdd; takes = takes })
  at_lock takes = plain l.seats s x.depth takes x.posts LockCountAdd tt above within refl refl refl refl refl refl

  at_try : (takes : ℕ) → IsReady l.seats s (record x { point = TryCountExchange; takes = takes })
  at_try takes = plain l.seats s x.depth takes x.posts TryCountExchange tt above within refl refl refl refl refl refl

  entry_ready : (p : Point) → ((takes : ℕ) → IsReady l.seats s (record x { point = p; takes = takes })) → ReadyStep l.seats s (Begin.begin_entry x l.budget p)
  entry_ready p at =
      let charge : ReadyStep l.seats s (Begin.charges x l.budget p) =
      ready_if l.seats s (nat_lt x.takes l.budget) (charged x p) (Begin.refuses x Refusal.Spent) (λ e. at (x.takes + 1)) ready
      in
      let free : ReadyStep l.seats s (if nat_eq x.depth 0 then Begin.charges x l.budget p else goes_on x p) =
      ready_if l.seats s (nat_eq x.depth 0) (Begin.charges x l.budget p) (goes_on x p) (λ e. charge) (at x.takes)
      in
      ready_if l.seats s (nat_lt 65534 x.depth) (Begin.refuses x Refusal.DepthFull) (if nat_eq x.depth 0 then Begin.charges x l.budget p else goes_on x p)
      (λ e. ready) free

  unlock_ready : x.point ≡ Rest → ReadyStep l.seats s (Begin.begin_unlock x)
  unlock_ready at =
      let release : ReadyStep l.seats s (goes_on x (ReleaseOwnerStore Unlocker)) =
      plain l.seats s x.depth x.takes x.posts (ReleaseOwnerStore Unlocker) tt above within refl refl refl refl refl refl
      in
      let lower : ReadyStep l.seats s (lowered x) = rw at (plain l.seats s (x.depth - 1) x.takes x.posts Rest tt above within refl refl refl refl refl refl) in
      let held : ReadyStep l.seats s (if nat_eq x.depth 1 then goes_on x (ReleaseOwnerStore Unlocker) else lowered x) =
      ready_if l.seats s (nat_eq x.depth 1) (goes_on x (ReleaseOwnerStore Unlocker)) (lowered x) (λ e. release) lower
      in
      ready_if l.seats s (nat_eq x.depth 0) (Begin.refuses x Refusal.NotOwner) (if nat_eq x.depth 1 then goes_on x (ReleaseOwnerStore Unlocker) else lowered x)
      (λ e. ready) held

  wait_ready : ReadyStep l.seats s (Begin.begin_wait x l.budget)
  wait_ready =
      let p : Point = ReleaseOwnerStore Waiter in
      let release : ReadyStep l.seats s (charged x (ReleaseOwnerStore Waiter)) =
      plain l.seats s x.depth (x.takes + 1) x.posts (ReleaseOwnerStore Waiter) tt above within refl refl refl refl refl refl
      in
      let charge : ReadyStep l.seats s (Begin.charges x l.budget (ReleaseOwnerStore Waiter)) =
      ready_if l.seats s (nat_lt x.takes l.budget) (charged x p) (Begin.refuses x Refusal.Spent) (λ e. release) ready
      in
      let once : ReadyStep l.seats s (if nat_lt 1 x.depth then Begin.refuses x Refusal.Nested else Begin.charges x l.budget (ReleaseOwnerStore Waiter)) =
      ready_if l.seats s (nat_lt 1 x.depth) (Begin.refuses x Refusal.Nested) (Begin.charges x l.budget p) (λ e. ready) charge
      in
      ready_if l.seats s (nat_eq x.depth 0) (Begin.refuses x Refusal.NotOwner)
      (if nat_lt 1 x.depth then Begin.refuses x Refusal.Nested else Begin.charges x l.budget p) (λ e. ready) once

  send_ready : (t : ℕ) → ReadyStep l.seats s (Begin.begin_send x l.seats t)
  send_ready t =
      ready_if l.seats s (nat_lt 0 t && nat_lt t (l.seats + 1)) (goes_on x (SendWakeExchange t)) (Begin.refuses x Refusal.NoSuchSeat)
      (λ e.
      let h = and_parts (ltb 0 t) (ltb t (l.seats + 1)) e in
      plain l.seats s x.depth x.takes x.posts (SendWakeExchange t) tt (ltb-true 0 t h.0) (omega (arith, ltb-true t (l.seats + 1) h.1)) refl refl refl refl refl refl)
      ready

  awake_ready : (call : Call) → x.point ≡ Rest → ReadyStep l.seats s (Begin.begin_awake x l call)
  awake_ready Lock at = entry_ready LockCountAdd at_lock
  awake_ready TryLock at = entry_ready TryCountExchange at_try
  awake_ready Unlock at = unlock_ready at
  awake_ready StartWait at = wait_ready
  awake_ready (SendLock t) at = send_ready t
  awake_ready Receive at = ready

  asleep_ready : (sleeper : Sleeper) (call : Call) → ReadyStep l.seats s (Begin.begin_asleep x sleeper call)
  asleep_ready sleeper Receive = plain l.seats s x.depth x.takes x.posts (ReceiveWakeLoad sleeper) tt above within refl refl refl refl refl refl
  asleep_ready sleeper _ = ready

  begin_at_ready : (call : Call) (p : Point) → x.point ≡ p → ReadyStep l.seats s (Begin.begin_at x l call p)
  begin_at_ready call Rest at = awake_ready call at
  begin_at_ready call (Asleep sleeper) at = asleep_ready sleeper call
  begin_at_ready call _ at = ready

begun_ready : (l : Limits) (s : ℕ) (x : SeatState) (calls : List Call) → 0 < s → s ≤ l.seats → IsReady l.seats s x → IsReady l.seats s (begun x l calls)
begun_ready l s x [] above within ready = ready
begun_ready l s x (call ∷ calls) above within ready =
    begin_at_ready l s (begun x l calls) above within (begun_ready l s x calls above within ready) call (begun x l calls).point refl

pub settles_ready : (l : Limits) (s : ℕ) (x p : SeatState) → 0 < s → s ≤ l.seats → IsReady l.seats s x → Settles x l p → IsReady l.seats s p
settles_ready l s x p above within ready settles = rw settles.leads (begun_ready l s x settles.calls above within ready)
