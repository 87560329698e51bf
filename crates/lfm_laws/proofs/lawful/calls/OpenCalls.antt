-- If a seat is in a call after a schedule, the call began in that schedule.
use Rattle.std.proofs.Common.{◌≡◌, ◌⊎◌, ℕ, Bool, true, false, ◌+◌, ◌-◌, ◌&&◌, List, [], ◌∷◌, nat_eq, nat_lt, refl, sym, ap, ◌∙◌, inl, inr, if◌then◌else◌}
use Rattle.std.proofs.lemmas.Bool.{cases_Bool, cases_eq, false≢true}
use Rattle.std.specs.Prelude.{Option, Some, None}
use Rattle.lfm_model.specs.declared.answers.Unlocked.{Unlocked}
use Rattle.lfm_model.specs.declared.refusals.Refusal.{Refusal}
use Rattle.lfm_protocol.specs.declared.answers.Answer.{Answer}
use Rattle.lfm_protocol.specs.declared.answers.Call.{Call}
use Rattle.lfm_protocol.specs.declared.answers.Call.TheVariants.{Lock, TryLock, Unlock, StartWait, SendLock, Receive}
use Rattle.lfm_protocol.specs.declared.answers.Turn.TheVariants.{Open, Ended}
use Rattle.lfm_protocol.specs.declared.kinds.Kind.{Kind}
use Rattle.lfm_protocol.specs.declared.limits.Limits.{Limits}
use Rattle.lfm_protocol.specs.declared.points.Point.{Point}
use Rattle.lfm_protocol.specs.declared.points.Point.TheVariants.{Rest, Asleep, LockCountAdd, TryCountExchange, SendWakeExchange, ReleaseOwnerStore}
use Rattle.lfm_protocol.specs.declared.points.Releaser.TheVariants.{Unlocker, Waiter}
use Rattle.lfm_protocol.specs.declared.points.Sleeper.{Sleeper}
use Rattle.lfm_protocol.specs.declared.seats.SeatState.{SeatState}
use Rattle.lfm_protocol.specs.Begin as Begin
use Rattle.lfm_protocol.specs.Begin.{Stepped, goes_on, refuses, charges, begin_entry, begin_unlock, begin_wait, begin_awake, begin_asleep}
use Rattle.lfm_protocol.specs.Core.{Core, limits}
use Rattle.lfm_protocol.specs.Seats.{seat, absent, is_seat}
use Rattle.lfm_protocol.specs.Points.{kind, target}
use Rattle.lfm_protocol.specs.Step.{step_of, begin, step, start}
use Rattle.lfm_laws.specs.laws.Effects.{HasBegun, OpenCallsHaveBegun}
use Rattle.lfm_laws.specs.laws.Releases.{StaysInCall}
use Rattle.lfm_laws.specs.laws.Schedules.{Event, begins, makes, happens, run_of, is_call}
use Rattle.lfm_laws.proofs.lawful.bounds.Leaving.{begun_other}
use Rattle.lfm_laws.proofs.lawful.calls.CallsEnded.{first_inside}
use Rattle.lfm_laws.proofs.lawful.calls.WaitsTold.{other_step}
use Rattle.lfm_laws.proofs.steady.Start.{same_entry}
use Rattle.lfm_laws.proofs.steady.frames.Entries.{seat-with_same}
use Rattle.lfm_laws.proofs.steady.frames.Seated.{seat_of_test}

-- If a seat is in a call after a start of a call, that start has opened it

record OpensInside (m : Stepped) : Type 0 where
  so : is_call m.seat.point ≡ true → m.turn ≡ Open

opens_if : (b : Bool) (m n : Stepped) → OpensInside m → OpensInside n → OpensInside (if b then m else n)
opens_if true m n first second = first
opens_if false m n first second = second

opens : (x : SeatState) (p : Point) → OpensInside (goes_on x p)
opens x p = record { so = λ inside. refl }

stays_out : (x : SeatState) (refusal : Refusal) → is_call x.point ≡ false → OpensInside (refuses x refusal)
stays_out x refusal outside = record { so = λ inside. absurd (false≢true (sym outside ∙ inside)) }

charged : (x : SeatState) (budget : ℕ) (p : Point) → is_call x.point ≡ false → OpensInside (charges x budget p)
charged x budget p outside =
    opens_if (nat_lt x.takes budget) (record { seat = record x { point = p; takes = x.takes + 1 }; turn = Open }) (refuses x Refusal.Spent)
    (record { so = λ inside. refl }) (stays_out x Refusal.Spent outside)

entered : (x : SeatState) (budget : ℕ) (p : Point) → is_call x.point ≡ false → OpensInside (begin_entry x budget p)
entered x budget p outside =
    opens_if (nat_lt 65534 x.depth) (refuses x Refusal.DepthFull) (if nat_eq x.depth 0 then charges x budget p else goes_on x p) (stays_out x Refusal.DepthFull outside)
    (opens_if (nat_eq x.depth 0) (charges x budget p) (goes_on x p) (charged x budget p outside) (opens x p))

unlocks : (x : SeatState) → is_call x.point ≡ false → OpensInside (begin_unlock x)
unlocks x outside =
    let p : Point = ReleaseOwnerStore Unlocker in
    let lowered : Stepped = record { seat = record x { depth = x.depth - 1 }; turn = Ended (Answer.Unlocked (Unlocked.Still (x.depth - 1))) } in
    opens_if (nat_eq x.depth 0) (refuses x Refusal.NotOwner) (if nat_eq x.depth 1 then goes_on x p else lowered) (stays_out x Refusal.NotOwner outside)
    (opens_if (nat_eq x.depth 1) (goes_on x p) lowered (opens x p) (record { so = λ inside. absurd (false≢true (sym outside ∙ inside)) }))

waits : (x : SeatState) (budget : ℕ) → is_call x.point ≡ false → OpensInside (begin_wait x budget)
waits x budget outside =
    let p : Point = ReleaseOwnerStore Waiter in
    opens_if (nat_eq x.depth 0) (refuses x Refusal.NotOwner) (if nat_lt 1 x.depth then refuses x Refusal.Nested else charges x budget p) (stays_out x Refusal.NotOwner outside)
    (opens_if (nat_lt 1 x.depth) (refuses x Refusal.Nested) (charges x budget p) (stays_out x Refusal.Nested outside) (charged x budget p outside))

awake : (x : SeatState) (bounds : Limits) (call : Call) → is_call x.point ≡ false → OpensInside (begin_awake x bounds call)
awake x bounds Lock outside = entered x bounds.budget LockCountAdd outside
awake x bounds TryLock outside = entered x bounds.budget TryCountExchange outside
awake x bounds Unlock outside = unlocks x outside
awake x bounds StartWait outside = waits x bounds.budget outside
awake x bounds (SendLock t) outside =
    opens_if (nat_lt 0 t && nat_lt t (bounds.seats + 1)) (goes_on x (SendWakeExchange t)) (refuses x Refusal.NoSuchSeat) (opens x (SendWakeExchange t))
    (stays_out x Refusal.NoSuchSeat outside)
awake x bounds Receive outside = stays_out x Refusal.NotWaiting outside

asleep : (x : SeatState) (sleeper : Sleeper) (call : Call) → is_call x.point ≡ false → OpensInside (begin_asleep x sleeper call)
asleep x sleeper Receive outside = opens x _
asleep x sleeper call outside = stays_out x Refusal.Asleep outside

opens_inside : (x : SeatState) (bounds : Limits) (call : Call) (p : Point) → x.point ≡ p → is_call p ≡ false → OpensInside (Begin.begin_at x bounds call p)
opens_inside x bounds call Rest at outside = awake x bounds call (rw at refl)
opens_inside x bounds call (Asleep sleeper) at outside = asleep x sleeper call (rw at refl)
opens_inside x bounds call _ at outside = absurd (false≢true (sym outside))

begin_opens : (c : Core) (s : ℕ) (call : Call) → is_call (seat c.seats s).point ≡ false → is_call (seat (begin c s call).core.seats s).point ≡ true → (begin c s call).turn ≡ Open
begin_opens c s call outside inside =
    let m = Begin.begin (seat c.seats s) (limits c) call in
    elim (cases_Bool (is_seat c.seats s)) [
      | inl is ↦
          let after : is_call m.seat.point ≡ true = rw (is, seat-with_same c.seats s m.seat (seat_of_test c.seats s is)) at inside in
          rw is ((opens_inside (seat c.seats s) (limits c) call (seat c.seats s).point refl outside).so after)
      | inr none ↦ absurd (false≢true (sym outside ∙ rw none at inside))
    ]

-- No step brings a seat into a call

no_kind : (p : Point) → is_call p ≡ false → kind p ≡ None
no_kind Rest outside = refl
no_kind (Asleep sleeper) outside = refl
no_kind _ outside = absurd (false≢true (sym outside))

idle_made : (c : Core) (s t : ℕ) (k : Option Kind) → k ≡ None → (step_of c s t k).core ≡ c
idle_made c s t None none = refl
idle_made c s t (Some k) none = absurd (cc)

idle_step : (c : Core) (s : ℕ) → is_call (seat c.seats s).point ≡ false → seat (step c s).core.seats s ≡ seat c.seats s
idle_step c s outside =
    elim (cases_Bool (is_seat c.seats s)) [
      | inl is ↦
          let p : Point = (seat c.seats s).point in
          rw is (ap (λ d. seat d.seats s) (idle_made c s (target (seat c.seats s).point s) (kind p) (no_kind p outside)))
      | inr none ↦ rw none refl
    ]

-- Runs

-- an event that brings seat s into a call begins it
opened : (c : Core) (s : ℕ) (e : Event) (later : List Event) → is_call (seat c.seats s).point ≡ false → is_call (seat (happens c e).core.seats s).point ≡ true
    → StaysInCall (happens c e).core s later → HasBegun c s (e ∷ later)
opened c s (begins t call) later outside inside stays =
    elim (cases_eq s t) [
      | inl own ↦
          let here : is_call (seat (begin c s call).core.seats s).point ≡ true = rw (sym own) at inside in
          rw (sym own) (record {
            call = call;
            earlier = [];
            since = later;
            all = refl;
            opens = begin_opens c s call outside here;
            stays = rw (sym own) at stays;
          })
      | inr other ↦ absurd (false≢true (sym outside ∙ ap (λ x. is_call x.point) (sym (begun_other c t s call other)) ∙ inside))
    ]
opened c s (makes t) later outside inside stays =
    elim (cases_eq s t) [
      | inl own ↦
          let here : is_call (seat (step c s).core.seats s).point ≡ true = rw (sym own) at inside in
          absurd (false≢true (sym outside ∙ ap (λ x. is_call x.point) (sym (idle_step c s outside)) ∙ here))
      | inr other ↦ absurd (false≢true (sym outside ∙ ap (λ x. is_call x.point) (sym (other_step c t s other)) ∙ inside))
    ]

shifted : (c : Core) (s : ℕ) (e : Event) (later : List Event) → HasBegun (happens c e).core s later → HasBegun c s (e ∷ later)
shifted c s e later begun =
    record {
      call = begun.call;
      earlier = e ∷ begun.earlier;
      since = begun.since;
      all = ap (λ l. e ∷ l) begun.all;
      opens = begun.opens;
      stays = begun.stays;
    }

-- a seat that is in a call after some events was in it before the first, or began it in them
open_since : (c : Core) (s : ℕ) (events : List Event) → is_call (seat (run_of c events).seats s).point ≡ true → StaysInCall c s events ⊎ HasBegun c s events
open_since c s [] inside = inl inside
open_since c s (e ∷ later) inside =
    elim (open_since (happens c e).core s later inside) [
      | inl stays ↦ elim (cases_Bool (is_call (seat c.seats s).point)) [
        | inl here ↦ inl (here, stays)
        | inr outside ↦ inr (opened c s e later outside (first_inside (happens c e).core s later stays) stays)
      ]
      | inr begun ↦ inr (shifted c s e later begun)
    ]

pub open_calls_have_begun : OpenCallsHaveBegun
open_calls_have_begun bounds events s inside =
    let rests = same_entry absent bounds.seats s in
    elim (open_since (start bounds) s events inside) [
      | inl stays ↦ absurd (false≢true (sym (ap (λ x. is_call x.point) rests) ∙ first_inside (start bounds) s events stays))
      | inr begun ↦ begun
    ]
