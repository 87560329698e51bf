-- A call is refused only for its cause, and a call that is refused changes nothing.
use Rattle.std.proofs.Common.{◌≡◌, ℕ, zero, suc, ◌≤◌, List, length, refl, sym, ap, ◌∙◌, inl, inr, arith}
use Rattle.std.proofs.lemmas.Bool.{cases_Bool, cases_eq, cases_lt, eq-eqb, ne_eqb, lt-ltb, le-ltb}
use Rattle.std.proofs.lemmas.List.{set-get_or}
use Rattle.lfm_model.specs.declared.refusals.Refusal.{Refusal}
use Rattle.lfm_protocol.specs.declared.answers.Call.{Call}
use Rattle.lfm_protocol.specs.declared.answers.Call.TheVariants.{Lock, TryLock, Unlock, StartWait, SendLock, Receive}
use Rattle.lfm_protocol.specs.declared.answers.Turn.TheVariants.{Open, Refused}
use Rattle.lfm_protocol.specs.declared.answers.Why.{Why}
use Rattle.lfm_protocol.specs.declared.answers.Why.TheVariants.{By}
use Rattle.lfm_protocol.specs.declared.limits.Limits.{Limits}
use Rattle.lfm_protocol.specs.declared.points.Point.{Point}
use Rattle.lfm_protocol.specs.declared.points.Point.TheVariants.{Rest, LockCountAdd, TryCountExchange}
use Rattle.lfm_protocol.specs.declared.points.Sleeper.{Sleeper}
use Rattle.lfm_protocol.specs.declared.seats.SeatState.{SeatState}
use Rattle.lfm_protocol.specs.Begin as Begin
use Rattle.lfm_protocol.specs.Begin.{Stepped}
use Rattle.lfm_protocol.specs.Core.{Core, put, limits}
use Rattle.lfm_laws.specs.laws.Refusals.{CauseToEnter, CauseToUnlock, CauseToWait, CauseToSend, CauseToReceive, CauseToBegin, RefusedBeginsChangeNothing, BeginsAreRefusedForCause}
use Rattle.lfm_protocol.specs.Limits.{max_depth}
use Rattle.lfm_protocol.specs.Seats.{entry, with_entry, seat, is_seat}
use Rattle.lfm_laws.specs.steady.Steady.{DepthAt}
use Rattle.lfm_laws.proofs.lawful.refusals.Beginnings.{begun_awake, begun_asleep}
use Rattle.lfm_laws.proofs.steady.frames.Seated.{test_of_seat}

-- A refused call changes nothing

-- putting an entry back changes nothing
with_entry-own : {A : Type 0} (d : A) (xs : List A) (s : ℕ) → with_entry xs s (entry d xs s) ≡ xs
unfolding entry with_entry
with_entry-own d xs zero = refl
with_entry-own d xs (suc n) = set-get_or xs n d

begin_same : (x : SeatState) (bounds : Limits) (call : Call) (p : Point) (why : Why) → (Begin.begin_at x bounds call p).turn ≡ Refused why
    → (Begin.begin_at x bounds call p).seat ≡ x
begin_same x bounds call Rest why turn = (begun_awake x bounds call).same why turn
begin_same x bounds call (Point.Asleep sleeper) why turn = (begun_asleep x sleeper call).same why turn
begin_same x bounds call _ why turn = refl

put_own : (c : Core) (s : ℕ) → put c s (seat c.seats s) ≡ c
put_own c s = ap (λ seats. record c { seats = seats }) (with_entry-own _ c.seats s)

pub refused_begins_change_nothing : RefusedBeginsChangeNothing
refused_begins_change_nothing c s call why turn =
    elim (cases_Bool (is_seat c.seats s)) [
      | inl is ↦
          let same = begin_same (seat c.seats s) (limits c) call (seat c.seats s).point why (rw is at turn) in
          rw is (ap (λ x. put c s x) same ∙ put_own c s)
      | inr none ↦ rw none refl
    ]

-- A refused call has its cause

pub same_refusal : (a b : Refusal) → Refused (By a) ≡ Refused (By b) → a ≡ b
same_refusal a b e = cc

pub open_refused : (refusal : Refusal) → Open ≡ Refused (By refusal) → ⊥
open_refused refusal e = cc

enter_refused : (budget : ℕ) (x : SeatState) (p : Point) (refusal : Refusal) → x.point ≡ Rest → x.depth ≤ max_depth → x.takes ≤ budget
    → (Begin.begin_entry x budget p).turn ≡ Refused (By refusal) → CauseToEnter budget x refusal
enter_refused budget x p refusal at deep within turn =
    elim (cases_lt 65534 x.depth) [
      | inl full ↦
          let e = same_refusal Refusal.DepthFull refusal (rw (lt-ltb 65534 x.depth full) at turn) in
          rw (sym e) (at, omega (arith, deep, full))
      | inr room ↦ elim (cases_eq x.depth 0) [
        | inl free ↦ elim (cases_lt x.takes budget) [
          | inl left ↦ absurd (open_refused refusal (rw (le-ltb 65534 x.depth room, eq-eqb x.depth 0 free, lt-ltb x.takes budget left) at turn))
          | inr spent ↦
              let e = same_refusal Refusal.Spent refusal (rw (le-ltb 65534 x.depth room, eq-eqb x.depth 0 free, le-ltb x.takes budget spent) at turn) in
              rw (sym e) (at, free, omega (arith, within, spent))
        ]
        | inr held ↦ absurd (open_refused refusal (rw (le-ltb 65534 x.depth room, ne_eqb x.depth 0 held) at turn))
      ]
    ]

unlock_refused : (x : SeatState) (refusal : Refusal) → x.point ≡ Rest → (Begin.begin_unlock x).turn ≡ Refused (By refusal) → CauseToUnlock x refusal
unlock_refused x refusal at turn =
    elim (cases_eq x.depth 0) [
      | inl free ↦ let e = same_refusal Refusal.NotOwner refusal (rw (eq-eqb x.depth 0 free) at turn) in rw (sym e) (at, free)
      | inr held ↦ elim (cases_eq x.depth 1) [
        | inl once ↦ absurd (open_refused refusal (rw (ne_eqb x.depth 0 held, eq-eqb x.depth 1 once) at turn))
        | inr deeper ↦ absurd (let f = rw (ne_eqb x.depth 0 held, ne_eqb x.depth 1 deeper) at turn in cc)
      ]
    ]

wait_refused : (budget : ℕ) (x : SeatState) (refusal : Refusal) → x.point ≡ Rest → x.takes ≤ budget → (Begin.begin_wait x budget).turn ≡ Refused (By refusal)
    → CauseToWait budget x refusal
wait_refused budget x refusal at within turn =
    elim (cases_eq x.depth 0) [
      | inl free ↦ let e = same_refusal Refusal.NotOwner refusal (rw (eq-eqb x.depth 0 free) at turn) in rw (sym e) (at, free)
      | inr held ↦ elim (cases_lt 1 x.depth) [
        | inl deeper ↦
            let e = same_refusal Refusal.Nested refusal (rw (ne_eqb x.depth 0 held, lt-ltb 1 x.depth deeper) at turn) in
            rw (sym e) (at, deeper)
        | inr once ↦ elim (cases_lt x.takes budget) [
          | inl left ↦ absurd (open_refused refusal (rw (ne_eqb x.depth 0 held, le-ltb 1 x.depth once, lt-ltb x.takes budget left) at turn))
          | inr spent ↦
              let e = same_refusal Refusal.Spent refusal (rw (ne_eqb x.depth 0 held, le-ltb 1 x.depth once, le-ltb x.takes budget spent) at turn) in
              rw (sym e) (at, omega (arith, held, once), omega (arith, within, spent))
        ]
      ]
    ]

send_refused : (seats : List SeatState) (t : ℕ) (x : SeatState) (refusal : Refusal) → x.point ≡ Rest
    → (Begin.begin_send x (length seats) t).turn ≡ Refused (By refusal) → CauseToSend seats t x refusal
send_refused seats t x refusal at turn =
    elim (cases_Bool (is_seat seats t)) [
      | inl is ↦ absurd (open_refused refusal (rw is at turn))
      | inr none ↦ let e = same_refusal Refusal.NoSuchSeat refusal (rw none at turn) in rw (sym e) (at, none)
    ]

receive_refused : (x : SeatState) (refusal : Refusal) → x.point ≡ Rest → Refused (By Refusal.NotWaiting) ≡ Refused (By refusal) → CauseToReceive x refusal
receive_refused x refusal at turn = let e = same_refusal Refusal.NotWaiting refusal turn in rw (sym e) at

awake_refused : (c : Core) (x : SeatState) (call : Call) (refusal : Refusal) → x.point ≡ Rest → x.depth ≤ max_depth → x.takes ≤ c.budget
    → (Begin.begin_awake x (limits c) call).turn ≡ Refused (By refusal) → CauseToBegin c x call refusal
awake_refused c x Lock refusal at deep within turn = enter_refused c.budget x LockCountAdd refusal at deep within turn
awake_refused c x TryLock refusal at deep within turn = enter_refused c.budget x TryCountExchange refusal at deep within turn
awake_refused c x Unlock refusal at deep within turn = unlock_refused x refusal at turn
awake_refused c x StartWait refusal at deep within turn = wait_refused c.budget x refusal at within turn
awake_refused c x (SendLock t) refusal at deep within turn = send_refused c.seats t x refusal at turn
awake_refused c x Receive refusal at deep within turn = receive_refused x refusal at turn

asleep_refused : (c : Core) (x : SeatState) (sleeper : Sleeper) (call : Call) (refusal : Refusal) → x.point ≡ Point.Asleep sleeper
    → (Begin.begin_asleep x sleeper call).turn ≡ Refused (By refusal) → CauseToBegin c x call refusal
asleep_refused c x sleeper Receive refusal at turn = absurd (open_refused refusal turn)
asleep_refused c x sleeper Lock refusal at turn =
    let e = same_refusal Refusal.Asleep refusal turn in rw (sym e) (record { sleeper = sleeper; here = at })
asleep_refused c x sleeper TryLock refusal at turn =
    let e = same_refusal Refusal.Asleep refusal turn in rw (sym e) (record { sleeper = sleeper; here = at })
asleep_refused c x sleeper Unlock refusal at turn =
    let e = same_refusal Refusal.Asleep refusal turn in rw (sym e) (record { sleeper = sleeper; here = at })
asleep_refused c x sleeper StartWait refusal at turn =
    let e = same_refusal Refusal.Asleep refusal turn in rw (sym e) (record { sleeper = sleeper; here = at })
asleep_refused c x sleeper (SendLock t) refusal at turn =
    let e = same_refusal Refusal.Asleep refusal turn in rw (sym e) (record { sleeper = sleeper; here = at })

-- while a seat rests its depth is bounded, so a refusal has its cause
begin_refused : (c : Core) (x : SeatState) (call : Call) (refusal : Refusal) (p : Point) → x.point ≡ p → DepthAt x.depth p → x.takes ≤ c.budget
    → (Begin.begin_at x (limits c) call p).turn ≡ Refused (By refusal) → CauseToBegin c x call refusal
begin_refused c x call refusal Rest at deep within turn = awake_refused c x call refusal at deep within turn
begin_refused c x call refusal (Point.Asleep sleeper) at deep within turn = asleep_refused c x sleeper call refusal at turn
begin_refused c x call refusal _ at deep within turn = absurd (cc)

-- If there is the cause, the call is refused

lock_refuses : (x : SeatState) (bounds : Limits) (refusal : Refusal) → CauseToEnter bounds.budget x refusal
    → (Begin.begin_at x bounds Lock x.point).turn ≡ Refused (By refusal)
lock_refuses x bounds Refusal.Asleep cause = rw cause.here refl
lock_refuses x bounds Refusal.DepthFull cause = rw (cause.0, lt-ltb 65534 x.depth (omega (arith, cause.1))) refl
lock_refuses x bounds Refusal.Spent cause =
    rw (cause.0, le-ltb 65534 x.depth (omega (arith, cause.1)), eq-eqb x.depth 0 cause.1, le-ltb x.takes bounds.budget (omega (arith, cause.2))) refl
lock_refuses x bounds _ cause = absurd cause

try_lock_refuses : (x : SeatState) (bounds : Limits) (refusal : Refusal) → CauseToEnter bounds.budget x refusal
    → (Begin.begin_at x bounds TryLock x.point).turn ≡ Refused (By refusal)
try_lock_refuses x bounds Refusal.Asleep cause = rw cause.here refl
try_lock_refuses x bounds Refusal.DepthFull cause = rw (cause.0, lt-ltb 65534 x.depth (omega (arith, cause.1))) refl
try_lock_refuses x bounds Refusal.Spent cause =
    rw (cause.0, le-ltb 65534 x.depth (omega (arith, cause.1)), eq-eqb x.depth 0 cause.1, le-ltb x.takes bounds.budget (omega (arith, cause.2))) refl
try_lock_refuses x bounds _ cause = absurd cause

unlock_refuses : (x : SeatState) (bounds : Limits) (refusal : Refusal) → CauseToUnlock x refusal → (Begin.begin_at x bounds Unlock x.point).turn ≡ Refused (By refusal)
unlock_refuses x bounds Refusal.Asleep cause = rw cause.here refl
unlock_refuses x bounds Refusal.NotOwner cause = rw (cause.0, eq-eqb x.depth 0 cause.1) refl
unlock_refuses x bounds _ cause = absurd cause

wait_refuses : (x : SeatState) (bounds : Limits) (refusal : Refusal) → CauseToWait bounds.budget x refusal
    → (Begin.begin_at x bounds StartWait x.point).turn ≡ Refused (By refusal)
wait_refuses x bounds Refusal.Asleep cause = rw cause.here refl
wait_refuses x bounds Refusal.NotOwner cause = rw (cause.0, eq-eqb x.depth 0 cause.1) refl
wait_refuses x bounds Refusal.Nested cause = rw (cause.0, ne_eqb x.depth 0 (λ none. omega (arith, cause.1, none)), lt-ltb 1 x.depth cause.1) refl
wait_refuses x bounds Refusal.Spent cause =
    rw (cause.0, ne_eqb x.depth 0 (λ none. omega (arith, cause.1, none)), le-ltb 1 x.depth (omega (arith, cause.1)), le-ltb x.takes bounds.budget (omega (arith, cause.2))) refl
wait_refuses x bounds _ cause = absurd cause

send_refuses : (c : Core) (t : ℕ) (x : SeatState) (refusal : Refusal) → CauseToSend c.seats t x refusal
    → (Begin.begin_at x (limits c) (SendLock t) x.point).turn ≡ Refused (By refusal)
send_refuses c t x Refusal.Asleep cause = rw cause.here refl
send_refuses c t x Refusal.NoSuchSeat cause = rw (cause.0, cause.1) refl
send_refuses c t x _ cause = absurd cause

receive_refuses : (x : SeatState) (bounds : Limits) (refusal : Refusal) → CauseToReceive x refusal → (Begin.begin_at x bounds Receive x.point).turn ≡ Refused (By refusal)
receive_refuses x bounds Refusal.NotWaiting cause = rw cause refl
receive_refuses x bounds _ cause = absurd cause

begin_refuses : (c : Core) (x : SeatState) (call : Call) (refusal : Refusal) → CauseToBegin c x call refusal
    → (Begin.begin_at x (limits c) call x.point).turn ≡ Refused (By refusal)
begin_refuses c x Lock refusal cause = lock_refuses x (limits c) refusal cause
begin_refuses c x TryLock refusal cause = try_lock_refuses x (limits c) refusal cause
begin_refuses c x Unlock refusal cause = unlock_refuses x (limits c) refusal cause
begin_refuses c x StartWait refusal cause = wait_refuses x (limits c) refusal cause
begin_refuses c x (SendLock t) refusal cause = send_refuses c t x refusal cause
begin_refuses c x Receive refusal cause = receive_refuses x (limits c) refusal cause

pub begins_are_refused_for_cause : BeginsAreRefusedForCause
begins_are_refused_for_cause c s call refusal reached is =
    let fits = reached.fits in
    let x : SeatState = seat c.seats s in
    let test = test_of_seat c.seats s is in (
      λ turn. begin_refused c (seat c.seats s) call refusal (seat c.seats s).point refl (fits.each s).depth (fits.each s).takes (rw test at turn),
      λ cause. rw test (begin_refuses c (seat c.seats s) call refusal cause),
    )
