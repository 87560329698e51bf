-- In a steady state the moving value is with the one seat that carries it or in its slot; and what a step does with it.
use Rattle.std.proofs.Common.{◌≡◌, ◌≢◌, ℕ, true, false, Bool, Option, Some, None, List, nat_eq, refl, sym, ap, ◌∙◌, inl, inr, arith, if◌then◌else◌}
use Rattle.std.proofs.lemmas.Bool.{cases_eq, ne_eqb, eq-eqb, false≢true}
use Rattle.lfm_protocol.specs.declared.points.Entrant.{Entrant}
use Rattle.lfm_model.specs.declared.answers.How.{How}
use Rattle.lfm_protocol.specs.declared.points.Point.{Point}
use Rattle.lfm_protocol.specs.declared.points.Point.TheVariants.{Rest, Asleep, LockCountAdd, LockOwnerLoad, LockCountSubtract, TryCountExchange, TryOwnerLoad, TryHandoffLoad, TryHandoffExchange, TryCountAdd, SendWakeExchange, SendCountAdd, SendPushRecheck, SendWakeStore, PushLoad, LinkStore, PushExchange, PushedHandoffLoad, PushedHandoffExchange, ReleaseOwnerStore, ReleaseCountSubtract, ReleaseHandoffStore, ReleasePushRecheck, ReleaseHandoffExchange, WaitWakeStore, TakeClearHead, TakeLinkLoad, GrantWakeStore, EnterOwnerStore, ReceiveWakeLoad, ReceiveWakeStore}
use Rattle.lfm_protocol.specs.declared.points.Pusher.{Pusher}
use Rattle.lfm_protocol.specs.declared.seats.SeatState.{SeatState}
use Rattle.lfm_model.specs.Abstract.{AbstractPlace}
use Rattle.lfm_protocol.specs.Core.{Core}
use Rattle.lfm_laws.specs.steady.Ghost.{Responsibility, nobody, owned, granted, posted, entering, accepting, leaving, serving, Ghost}
use Rattle.lfm_laws.specs.steady.EventOutcome.{abstract, abstract_place}
use Rattle.lfm_protocol.specs.Place.{carries}
use Rattle.lfm_protocol.specs.Seats.{seat, with_entry, IsSeat}
use Rattle.lfm_laws.specs.steady.Steady.{DepthOfPusher, DepthAt, Fits}
use Rattle.lfm_laws.specs.steady.Views.{claim_at, claim_of_pusher, claim_to_enter, by_depth, held_by}
use Rattle.lfm_laws.proofs.steady.frames.Entries.{seat-with_same, seat-with_other}
use Rattle.lfm_laws.specs.table.Carried.{carries_value, out_with, TellsValue, move_of, MovesValue}

-- The claim of one seat

abbrev pub is_claim : Responsibility → Bool
is_claim nobody = false
is_claim _ = true

-- a seat of this depth at this point has the value
abbrev carries_at : ℕ → Point → Bool
carries_at depth p = if nat_eq depth 0 then carries p else true

by_test : (b again : Bool) (s : ℕ) → is_claim (if b then nobody else owned s again) ≡ (if b then false else true)
by_test true again s = refl
by_test false again s = refl

held_claim : (depth s : ℕ) (again : Bool) → is_claim (by_depth depth s again) ≡ (if nat_eq depth 0 then false else true)
held_claim depth s again = by_test (nat_eq depth 0) again s

pusher_claim : (depth s : ℕ) (pusher : Pusher) → DepthOfPusher depth pusher
    → is_claim (claim_of_pusher depth s pusher) ≡ (if nat_eq depth 0 then false else true)
pusher_claim depth s Pusher.Locker deep = rw deep refl
pusher_claim depth s (Pusher.Sender t) deep = held_claim depth s false

entrant_claim : (s : ℕ) (entrant : Entrant) (how : How) → is_claim (claim_to_enter s entrant how) ≡ true
entrant_claim s Entrant.Locker How.Free = refl
entrant_claim s Entrant.Locker (How.Queued stamp) = refl
entrant_claim s Entrant.Trier how = refl
entrant_claim s Entrant.Receiver how = refl

claim_carries : (depth s : ℕ) (p : Point) → DepthAt depth p → is_claim (claim_at depth s p) ≡ carries_at depth p
claim_carries depth s Rest deep = held_claim depth s false
claim_carries depth s (Asleep sleeper) deep = rw deep refl
claim_carries depth s LockCountAdd deep = held_claim depth s false
claim_carries depth s LockOwnerLoad deep = held_claim depth s true
claim_carries depth s LockCountSubtract deep = let some = deep.0 in rw (ne_eqb depth 0 (omega (arith, some))) refl
claim_carries depth s TryCountExchange deep = held_claim depth s false
claim_carries depth s TryOwnerLoad deep = held_claim depth s false
claim_carries depth s TryHandoffLoad deep = rw deep refl
claim_carries depth s (TryHandoffExchange seen) deep = rw deep refl
claim_carries depth s TryCountAdd deep = rw deep refl
claim_carries depth s (SendWakeExchange t) deep = held_claim depth s false
claim_carries depth s (SendCountAdd t) deep = held_claim depth s false
claim_carries depth s (SendPushRecheck t seen) deep = rw deep refl
claim_carries depth s (SendWakeStore t) deep = rw deep refl
claim_carries depth s (PushLoad pusher) deep = pusher_claim depth s pusher deep
claim_carries depth s (LinkStore pusher seen) deep = pusher_claim depth s pusher deep
claim_carries depth s (PushExchange pusher seen) deep = pusher_claim depth s pusher deep
claim_carries depth s (PushedHandoffLoad pusher) deep = pusher_claim depth s pusher deep
claim_carries depth s (PushedHandoffExchange pusher seen) deep = rw deep refl
claim_carries depth s (ReleaseOwnerStore releaser) deep = rw deep refl
claim_carries depth s (ReleaseCountSubtract releaser) deep = rw deep refl
claim_carries depth s (ReleaseHandoffStore releaser) deep = rw deep refl
claim_carries depth s (ReleasePushRecheck releaser) deep = rw deep refl
claim_carries depth s (ReleaseHandoffExchange releaser) deep = rw deep refl
claim_carries depth s (WaitWakeStore released) deep = rw deep refl
claim_carries depth s (TakeClearHead carrier) deep = rw deep refl
claim_carries depth s (TakeLinkLoad carrier next) deep = rw deep refl
claim_carries depth s (GrantWakeStore carrier oldest) deep = rw deep refl
claim_carries depth s (EnterOwnerStore entrant how) deep = rw deep (entrant_claim s entrant how)
claim_carries depth s (ReceiveWakeLoad sleeper) deep = rw deep refl
claim_carries depth s (ReceiveWakeStore stamp) deep = rw deep refl

-- The place

same_seat : (t s : ℕ) (q : Responsibility) → is_claim (if nat_eq t s then q else nobody) ≡ true → t ≡ s
same_seat t s q e =
    elim (cases_eq t s) [
      | inl here ↦ here
      | inr other ↦ absurd (false≢true (rw (ne_eqb t s other) at e))
    ]

some_same : (a b : ℕ) → Some a ≡ Some b → a ≡ b
some_same a b e = cc

out_of_held : (p : Responsibility) (s : ℕ) → is_claim (held_by p s) ≡ true → out_with (abstract_place p) ≡ Some s
out_of_held nobody s e = absurd (false≢true e)
out_of_held (owned t again) s e = ap Some (same_seat t s (owned t again) e)
out_of_held (granted t stamp) s e = absurd (false≢true e)
out_of_held posted s e = absurd (false≢true e)
out_of_held (entering t into stamp) s e = ap Some (same_seat t s (entering t into stamp) e)
out_of_held (accepting t) s e = ap Some (same_seat t s (accepting t) e)
out_of_held (leaving t) s e = ap Some (same_seat t s (leaving t) e)
out_of_held (serving t) s e = ap Some (same_seat t s (serving t) e)

held_here : (t s : ℕ) (q : Responsibility) → is_claim q ≡ true → t ≡ s → is_claim (if nat_eq t s then q else nobody) ≡ true
held_here t s q claims here = rw (eq-eqb t s here) claims

held_of_out : (p : Responsibility) (s : ℕ) → out_with (abstract_place p) ≡ Some s → is_claim (held_by p s) ≡ true
held_of_out nobody s e = absurd (cc)
held_of_out (owned t again) s e = held_here t s (owned t again) refl (some_same t s e)
held_of_out (granted t stamp) s e = absurd (cc)
held_of_out posted s e = absurd (cc)
held_of_out (entering t into stamp) s e = held_here t s (entering t into stamp) refl (some_same t s e)
held_of_out (accepting t) s e = held_here t s (accepting t) refl (some_same t s e)
held_of_out (leaving t) s e = held_here t s (leaving t) refl (some_same t s e)
held_of_out (serving t) s e = held_here t s (serving t) refl (some_same t s e)

-- a seat has the value exactly if the place gives it the responsibility
pub carried_as_held : (c : Core) (g : Ghost) (s : ℕ) → Fits c g → carries_value (seat c.seats s) ≡ is_claim (held_by g.place s)
carried_as_held c g s fits =
    let x = seat c.seats s in
    let here = fits.each s in
    sym (claim_carries x.depth s x.point here.depth) ∙ ap is_claim here.claims

pub tells_value : (c : Core) (g : Ghost) → Fits c g → TellsValue c.seats (abstract g).place
tells_value c g fits =
    record {
      out = λ s e. out_of_held g.place s (sym (carried_as_held c g s fits) ∙ e);
      carried = λ s e. carried_as_held c g s fits ∙ held_of_out g.place s e;
    }

-- at most one seat has it
pub carried_alone : (seats : List SeatState) (place : AbstractPlace) (s t : ℕ) → TellsValue seats place
    → carries_value (seat seats s) ≡ true → carries_value (seat seats t) ≡ true → s ≡ t
carried_alone seats place s t tells here there = some_same s t (sym (tells.out s here) ∙ tells.out t there)

none_or_some : (o : Option ℕ) → ((s : ℕ) → o ≢ Some s) → o ≡ None
none_or_some None none = refl
none_or_some (Some s) none = absurd (none s refl)

false_of : (b : Bool) → b ≢ true → b ≡ false
false_of true e = absurd (e refl)
false_of false e = refl

-- if it is in its slot, no seat has it
pub carried_by_none : (seats : List SeatState) (place : AbstractPlace) → TellsValue seats place → out_with place ≡ None
    → (s : ℕ) → carries_value (seat seats s) ≡ false
carried_by_none seats place tells home s =
    false_of (carries_value (seat seats s)) (λ e. let f : None ≡ Some s = sym home ∙ tells.out s e in absurd (cc))

-- if no seat has it, it is in its slot
pub home_of_none : (seats : List SeatState) (place : AbstractPlace) → TellsValue seats place → ((s : ℕ) → carries_value (seat seats s) ≡ false)
    → out_with place ≡ None
home_of_none seats place tells none =
    none_or_some (out_with place) (λ s e. false≢true (sym (none s) ∙ tells.carried s e))

-- Its move by a step of seat s, which then has state y

-- if one seat has it, no other seat does
others_none : (seats : List SeatState) (place : AbstractPlace) (s t : ℕ) → TellsValue seats place → carries_value (seat seats s) ≡ true → t ≢ s
    → carries_value (seat seats t) ≡ false
others_none seats place s t tells here other =
    false_of (carries_value (seat seats t)) (λ e. other (carried_alone seats place t s tells e here))

pub moves_by : (seats : List SeatState) (s : ℕ) (y : SeatState) (place to : AbstractPlace) (before after : Bool) → IsSeat seats s → TellsValue seats place
    → TellsValue (with_entry seats s y) to → carries_value (seat seats s) ≡ before → carries_value y ≡ after
    → MovesValue seats (with_entry seats s y) s (move_of before after)
moves_by seats s y place to false false is tells later was now =
    λ t. elim (cases_eq t s) [
      | inl here ↦ rw (here, seat-with_same seats s y is) (now ∙ sym was)
      | inr other ↦ rw (seat-with_other seats s t y other) refl
    ]
moves_by seats s y place to true true is tells later was now =
    λ t. elim (cases_eq t s) [
      | inl here ↦ rw (here, seat-with_same seats s y is) (now ∙ sym was)
      | inr other ↦ rw (seat-with_other seats s t y other) refl
    ]
moves_by seats s y place to false true is tells later was now =
    let carried : carries_value (seat (with_entry seats s y) s) ≡ true = ap carries_value (seat-with_same seats s y is) ∙ now in (
      λ t. elim (cases_eq t s) [
        | inl here ↦ rw here was
        | inr other ↦
            ap carries_value (sym (seat-with_other seats s t y other)) ∙ others_none (with_entry seats s y) to s t later carried other
      ],
      carried,
    )
moves_by seats s y place to true false is tells later was now = (
  was,
  λ t. elim (cases_eq t s) [
    | inl here ↦ ap (λ t. carries_value (seat (with_entry seats s y) t)) here ∙ (ap carries_value (seat-with_same seats s y is) ∙ now)
    | inr other ↦ ap carries_value (seat-with_other seats s t y other) ∙ others_none seats place s t tells was other
  ],
)
