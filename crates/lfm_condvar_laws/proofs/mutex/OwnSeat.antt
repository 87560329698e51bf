-- How the acting seat changes when it starts a call of the user mutex or makes a step of one.
use Rattle.std.proofs.Common.{◌≡◌, ℕ, Bool, true, false, ◌+◌, ◌&&◌, nat_eq, nat_lt, length, refl, sym, ap, ◌∙◌, inl, inr, if◌then◌else◌}
use Rattle.std.proofs.lemmas.Bool.{cases_Bool, false≢true}
use Rattle.lfm_model.specs.declared.refusals.Refusal.{Refusal}
use Rattle.lfm_protocol.specs.declared.answers.Call.{Call}
use Rattle.lfm_protocol.specs.declared.answers.Call.TheVariants.{Lock, TryLock, Unlock, StartWait, SendLock, Receive}
use Rattle.lfm_protocol.specs.declared.limits.Limits.{Limits}
use Rattle.lfm_protocol.specs.declared.points.Point.{Point}
use Rattle.lfm_protocol.specs.declared.points.Point.TheVariants.{Rest, Asleep, ReceiveWakeLoad, LockCountAdd, TryCountExchange, SendWakeExchange, SendCountAdd, ReleaseOwnerStore}
use Rattle.lfm_protocol.specs.declared.points.Releaser.TheVariants.{Unlocker, Waiter}
use Rattle.lfm_protocol.specs.declared.points.Sleeper.{Sleeper}
use Rattle.lfm_protocol.specs.declared.seats.SeatState.{SeatState}
use Rattle.lfm_words.specs.declared.wakes.Wake.TheVariants.{Waiting}
use Rattle.lfm_protocol.specs.Begin as Begin
use Rattle.lfm_protocol.specs.Begin.{Stepped, goes_on, refuses, charges, begin_entry, begin_unlock, begin_wait, begin_awake, begin_asleep}
use Rattle.lfm_protocol.specs.Core.{Core, limits}
use Rattle.lfm_protocol.specs.Turns.{is_open}
use Rattle.lfm_laws.specs.laws.Schedules.{is_call}
use Rattle.lfm_protocol.specs.Seats.{seat, wake, is_seat, IsSeat}
use Rattle.lfm_protocol.specs.Step.{made, step, begin}
use Rattle.lfm_laws.specs.steady.Steady.{sleeps_as_waiter}
use Rattle.lfm_laws.proofs.lawful.bounds.Leaving.{own_made}
use Rattle.lfm_laws.proofs.steady.frames.Entries.{seat-with_same}
use Rattle.lfm_laws.proofs.steady.frames.Seated.{seat_of_test, test_of_seat}
use Rattle.lfm_condvar_laws.specs.Events.{is_own_call, is_rest}
use Rattle.lfm_condvar_laws.proofs.Invariant.{is_of_condvar, claims_at, sends_at, waits_at}
use Rattle.lfm_condvar_laws.proofs.points.SendPoints.{stays_sending}
use Rattle.lfm_condvar_laws.proofs.points.Outside.{stays_outside}

-- Points

pub sends_unclaimed : (p : Point) → sends_at p ≡ true → claims_at p ≡ false
sends_unclaimed (SendWakeExchange t) sends = absurd (false≢true sends)
sends_unclaimed _ sends = refl

pub outside_unclaimed : (p : Point) → is_of_condvar p ≡ false → claims_at p ≡ false
outside_unclaimed (SendWakeExchange t) none = absurd (false≢true (sym none))
outside_unclaimed _ none = refl

pub outside_awake : (p : Point) → is_of_condvar p ≡ false → sleeps_as_waiter p ≡ false
outside_awake (Asleep Sleeper.Waiter) none = absurd (false≢true (sym none))
outside_awake (ReceiveWakeLoad Sleeper.Waiter) none = absurd (false≢true (sym none))
outside_awake _ none = refl

pub waits_unclaimed : (p : Point) → waits_at p ≡ true → claims_at p ≡ false
waits_unclaimed (SendWakeExchange t) waits = absurd (false≢true waits)
waits_unclaimed _ waits = refl

-- a send that has ended is at rest
pub sent_rests : (p : Point) → sends_at p ≡ true → is_call p ≡ false → p ≡ Rest
sent_rests Rest sends over = refl
sent_rests (Asleep sleeper) sends over = absurd (false≢true sends)
sent_rests _ sends over = absurd (false≢true (sym over))

-- a start_wait is a call
pub waits_in_call : (p : Point) → waits_at p ≡ true → is_call p ≡ true
waits_in_call Rest waits = absurd (false≢true waits)
waits_in_call (Asleep sleeper) waits = absurd (false≢true waits)
waits_in_call _ waits = refl

pub at_rest : (p : Point) → is_rest p ≡ true → p ≡ Rest
at_rest Rest rests = refl
at_rest _ rests = absurd (false≢true rests)

-- Steps

pub step_outside : (c : Core) (s : ℕ) → is_of_condvar (seat c.seats s).point ≡ false
    → is_of_condvar (seat (step c s).core.seats s).point ≡ false
step_outside c s before =
    elim (cases_Bool (is_seat c.seats s)) [
      | inl is ↦ rw is (ap (λ x. is_of_condvar x.point) (own_made c s (seat_of_test c.seats s is)) ∙ stays_outside c s before)
      | inr none ↦ rw none before
    ]

pub made_sending : (c : Core) (s : ℕ) → IsSeat c.seats s → sends_at (seat c.seats s).point ≡ true
    → sends_at (seat (made c s).core.seats s).point ≡ true
made_sending c s is before = ap (λ x. sends_at x.point) (own_made c s is) ∙ stays_sending c s before

-- Beginnings

begun_if : (b : Bool) (m n : Stepped) → is_of_condvar m.seat.point ≡ false → is_of_condvar n.seat.point ≡ false
    → is_of_condvar (if b then m else n).seat.point ≡ false
begun_if true m n first second = first
begun_if false m n first second = second

charged_outside : (x : SeatState) (budget : ℕ) (p : Point) → is_of_condvar x.point ≡ false → is_of_condvar p ≡ false
    → is_of_condvar (charges x budget p).seat.point ≡ false
charged_outside x budget p before other = begun_if (nat_lt x.takes budget) _ (refuses x Refusal.Spent) other before

entry_outside : (x : SeatState) (budget : ℕ) (p : Point) → is_of_condvar x.point ≡ false → is_of_condvar p ≡ false
    → is_of_condvar (begin_entry x budget p).seat.point ≡ false
entry_outside x budget p before other =
    begun_if (nat_lt 65534 x.depth) (refuses x Refusal.DepthFull)
    (if nat_eq x.depth 0 then charges x budget p else goes_on x p) before
    (begun_if (nat_eq x.depth 0) (charges x budget p) (goes_on x p) (charged_outside x budget p before other) other)

awake_outside : (x : SeatState) (bounds : Limits) (call : Call) → is_own_call call ≡ true → is_of_condvar x.point ≡ false
    → is_of_condvar (begin_awake x bounds call).seat.point ≡ false
awake_outside x bounds Lock own before = entry_outside x bounds.budget LockCountAdd before refl
awake_outside x bounds TryLock own before = entry_outside x bounds.budget TryCountExchange before refl
awake_outside x bounds Unlock own before =
    begun_if (nat_eq x.depth 0) (refuses x Refusal.NotOwner) _ before
    (begun_if (nat_eq x.depth 1) (goes_on x (ReleaseOwnerStore Unlocker)) _ refl before)
awake_outside x bounds StartWait own before = absurd (false≢true own)
awake_outside x bounds (SendLock t) own before = absurd (false≢true own)
awake_outside x bounds Receive own before = before

asleep_outside : (x : SeatState) (sleeper : Sleeper) (call : Call) → is_of_condvar x.point ≡ false
    → is_of_condvar (Asleep sleeper) ≡ false
    → is_of_condvar (begin_asleep x sleeper call).seat.point ≡ false
asleep_outside x Sleeper.Waiter Receive before here = absurd (false≢true (sym here))
asleep_outside x Sleeper.Locker Receive before here = refl
asleep_outside x sleeper _ before here = before

begun_outside : (x : SeatState) (bounds : Limits) (call : Call) (p : Point) → is_own_call call ≡ true
    → is_of_condvar x.point ≡ false
    → is_of_condvar p ≡ false → is_of_condvar (Begin.begin_at x bounds call p).seat.point ≡ false
begun_outside x bounds call Rest own before here = awake_outside x bounds call own before
begun_outside x bounds call (Asleep sleeper) own before here = asleep_outside x sleeper call before here
begun_outside x bounds call _ own before here = before

-- no call made outside of condvars begins at a point that only calls on condvars reach
pub begin_outside : (c : Core) (s : ℕ) (call : Call) → is_own_call call ≡ true → is_of_condvar (seat c.seats s).point ≡ false
    → is_of_condvar (seat (begin c s call).core.seats s).point ≡ false
begin_outside c s call own before =
    elim (cases_Bool (is_seat c.seats s)) [
      | inl is ↦
          rw is (ap (λ x. is_of_condvar x.point) (seat-with_same c.seats s _ (seat_of_test c.seats s is))
          ∙ begun_outside (seat c.seats s) (limits c) call (seat c.seats s).point own before before)
      | inr none ↦ rw none before
    ]

-- a start_wait that begins is at its first step
wait_if : (b : Bool) (x : SeatState) (refusal : Refusal) (n : Stepped)
    → (is_open n.turn ≡ true → n.seat.point ≡ ReleaseOwnerStore Waiter)
    → is_open (if b then refuses x refusal else n).turn ≡ true
    → (if b then refuses x refusal else n).seat.point ≡ ReleaseOwnerStore Waiter
wait_if true x refusal n later opens = absurd (false≢true opens)
wait_if false x refusal n later opens = later opens

wait_charges : (b : Bool) (x : SeatState) (m : Stepped) → m.seat.point ≡ ReleaseOwnerStore Waiter
    → is_open (if b then m else refuses x Refusal.Spent).turn ≡ true
    → (if b then m else refuses x Refusal.Spent).seat.point ≡ ReleaseOwnerStore Waiter
wait_charges true x m at opens = at
wait_charges false x m at opens = absurd (false≢true opens)

wait_begins : (x : SeatState) (bounds : Limits) (p : Point) → is_open (Begin.begin_at x bounds StartWait p).turn ≡ true
    → (Begin.begin_at x bounds StartWait p).seat.point ≡ ReleaseOwnerStore Waiter
wait_begins x bounds Rest opens =
    wait_if (nat_eq x.depth 0) x Refusal.NotOwner (if nat_lt 1 x.depth then refuses x Refusal.Nested else charges x bounds.budget
    (ReleaseOwnerStore Waiter))
    (λ o. wait_if (nat_lt 1 x.depth) x Refusal.Nested (charges x bounds.budget (ReleaseOwnerStore Waiter))
    (λ u. wait_charges (nat_lt x.takes bounds.budget) x _ refl u) o) opens
wait_begins x bounds (Asleep sleeper) opens = absurd (false≢true opens)
wait_begins x bounds _ opens = absurd (false≢true opens)

pub record WaitBegins (c : Core) (s : ℕ) : Type 0 where
  pub is : IsSeat c.seats s
  pub at : (seat (begin c s StartWait).core.seats s).point ≡ ReleaseOwnerStore Waiter

pub begin_wait_at : (c : Core) (s : ℕ) → is_open (begin c s StartWait).turn ≡ true → WaitBegins c s
begin_wait_at c s opens =
    elim (cases_Bool (is_seat c.seats s)) [
      | inl is ↦
          let seated = seat_of_test c.seats s is in
          record {
            is = seated;
            at =
                rw is (ap (λ x. x.point) (seat-with_same c.seats s _ seated)
                ∙ wait_begins (seat c.seats s) (limits c) (seat c.seats s).point (rw is at opens));
          }
      | inr none ↦ absurd (false≢true (rw none at opens))
    ]

-- a send that begins is at its claim
pub begin_send_at : (c : Core) (s t : ℕ) → IsSeat c.seats s → IsSeat c.seats t → (seat c.seats s).point ≡ Rest
    → (seat (begin c s (SendLock t)).core.seats s).point ≡ SendWakeExchange t
begin_send_at c s t is target at =
    let there : (nat_lt 0 t && nat_lt t (length c.seats + 1)) ≡ true = test_of_seat c.seats t target in
    rw (test_of_seat c.seats s is) (ap (λ x. x.point) (seat-with_same c.seats s _ is) ∙ rw (at, there) refl)

-- The claim

pub claim_turn : (c : Core) (s t : ℕ) → IsSeat c.seats s → (seat c.seats s).point ≡ SendWakeExchange t → wake c.wakes t ≡ Waiting
    → is_open (step c s).turn ≡ true
claim_turn c s t is at found = rw (test_of_seat c.seats s is) (rw (at, at, found) refl)

pub claim_at : (c : Core) (s t : ℕ) → IsSeat c.seats s → (seat c.seats s).point ≡ SendWakeExchange t → wake c.wakes t ≡ Waiting
    → (seat (made c s).core.seats s).point ≡ SendCountAdd t
claim_at c s t is at found = ap (λ x. x.point) (own_made c s is) ∙ rw (at, at, found) refl
