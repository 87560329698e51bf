-- Each effect is part of a call of the seat that makes it, and the step of the abstract mutex names that seat or the target of
-- its send.
use Rattle.std.proofs.Common.{◌≡◌, ◌≢◌, ◌⊎◌, ℕ, Bool, true, false, ◌+◌, ◌<◌, ◌∷◌, refl, sym, ap, ◌∙◌, inl, inr, arith, if◌then◌else◌}
use Rattle.std.proofs.lemmas.Bool.{cases_Bool, cases_eq, eq-eqb, ne_eqb, false≢true}
use Rattle.std.specs.Prelude.{Option, Some, None}
use Rattle.lfm_model.specs.Abstract.{AbstractMutex, AbstractStep, AbstractPlace, Carrying, HasNothing, Joins, free, carried, entering, leaving}
use Rattle.lfm_model.specs.Abstract as Abstract
use Rattle.lfm_model.specs.AbstractRuns.{Case, case_of}
use Rattle.lfm_model.specs.AbstractRuns as Runs
use Rattle.lfm_model.specs.declared.answers.How.{How}
use Rattle.lfm_protocol.specs.declared.answers.Answer.{Answer}
use Rattle.lfm_protocol.specs.declared.answers.Call.{Call}
use Rattle.lfm_protocol.specs.declared.answers.Call.TheVariants.{Lock, TryLock, Unlock, StartWait, SendLock, Receive}
use Rattle.lfm_protocol.specs.declared.answers.Turn.{Turn}
use Rattle.lfm_protocol.specs.declared.answers.Turn.TheVariants.{Open, Ended, Refused}
use Rattle.lfm_protocol.specs.declared.points.Entrant.{Entrant}
use Rattle.lfm_protocol.specs.declared.points.Point.{Point}
use Rattle.lfm_protocol.specs.declared.points.Point.TheVariants.{Rest, Asleep, LockCountAdd, TryCountExchange, TryHandoffExchange, SendCountAdd, PushExchange, PushedHandoffExchange, ReleaseOwnerStore, ReleaseHandoffExchange, EnterOwnerStore, ReceiveWakeLoad}
use Rattle.lfm_protocol.specs.declared.points.Releaser.{Releaser}
use Rattle.lfm_protocol.specs.declared.points.Releaser.TheVariants.{Unlocker, Waiter}
use Rattle.lfm_protocol.specs.declared.points.Sleeper.{Sleeper}
use Rattle.lfm_protocol.specs.declared.seats.SeatState.{SeatState}
use Rattle.lfm_words.specs.declared.handoffs.Handoff.{Handoff}
use Rattle.lfm_words.specs.declared.wakes.Wake.{Wake}
use Rattle.lfm_protocol.specs.After.{same_link, same_handoff}
use Rattle.lfm_protocol.specs.Core.{Core}
use Rattle.lfm_protocol.specs.Seats.{seat, wake, is_seat, IsSeat}
use Rattle.lfm_protocol.specs.Step.{begin, step}
use Rattle.lfm_laws.specs.laws.Cases.{GoesBy}
use Rattle.lfm_laws.specs.laws.Effects.{effects_of_case, effects_of, IsAskOf, IsAcceptOf, IsTakeUpOf, IsReleaseOf, IsEffectOf, IsOfOpenCall, IsOfEndedCall, ChangesAreOfOpenCalls, EffectsAreOfCalls, EffectsAreTheCallers}
use Rattle.lfm_laws.specs.laws.Errands.{asks_for, Asks}
use Rattle.lfm_laws.specs.laws.Events.{case_at, takes_up}
use Rattle.lfm_laws.specs.laws.Reading.{carrying_at, by_call, Reads}
use Rattle.lfm_laws.specs.laws.Schedules.{Event, begins, makes, run_of, is_call}
use Rattle.lfm_laws.specs.steady.Steady.{Steady}
use Rattle.lfm_laws.proofs.lawful.bounds.Leaving.{stepped, seat_of_call}
use Rattle.lfm_laws.proofs.lawful.calls.CallSteps.{call_at}
use Rattle.lfm_laws.proofs.lawful.calls.CallsEnded.{kind_of, run_stays, begin_says}
use Rattle.lfm_laws.proofs.lawful.calls.EffectSteps.{effects_told}
use Rattle.lfm_laws.proofs.lawful.calls.EffectsOnce.{own_step_effects, own_begin_effects}
use Rattle.lfm_laws.proofs.lawful.calls.EffectTargets.{target_at, sends_so}
use Rattle.lfm_laws.proofs.lawful.calls.WaitsTold.{own_after, other_step}
use Rattle.lfm_laws.proofs.lawful.runs.AbstractBridge.{events_are_their_cases}
use Rattle.lfm_laws.proofs.lawful.runs.Reached.{run_keeps}
use Rattle.lfm_laws.proofs.lawful.states.CountLaws.{count_is_zero_if_free}

-- The call that changes the abstract mutex

some_case : (case : Case) → None ≡ Some case → ⊥
some_case case e = cc

changes_in_call : (c : Core) (s : ℕ) (x : SeatState) (p : Point) (case : Case) → case_at c s x p ≡ Some case → is_call p ≡ true
changes_in_call c s x Rest case e = absurd (some_case case e)
changes_in_call c s x (Asleep sleeper) case e = absurd (some_case case e)
changes_in_call c s x _ case e = refl

pub changes_are_of_open_calls : ChangesAreOfOpenCalls
changes_are_of_open_calls c (begins s call) case e = absurd (some_case case e)
changes_are_of_open_calls c (makes s) case e = (s, (refl, changes_in_call c s (seat c.seats s) (seat c.seats s).point case e))

-- The call of an effect

-- a seat without an open call makes no step
idles : (c : Core) (s : ℕ) (p : Point) → (seat c.seats s).point ≡ p → is_call p ≡ false → effects_of_case (case_at c s (seat c.seats s) p) + effects_told (step c s).turn ≡ 0
idles c s Rest at outside =
    elim (cases_Bool (is_seat c.seats s)) [
      | inl is ↦ rw (is, at) refl
      | inr none ↦ rw none refl
    ]
idles c s (Asleep sleeper) at outside =
    elim (cases_Bool (is_seat c.seats s)) [
      | inl is ↦ rw (is, at) refl
      | inr none ↦ rw none refl
    ]
idles c s _ at outside = absurd (false≢true (sym outside))

ended_told : (turn : Turn) → 0 < effects_told turn → (answer : Answer) × (turn ≡ Ended answer)
ended_told Open some = absurd (omega (arith, some))
ended_told (Ended answer) some = (answer, refl)
ended_told (Refused why) some = absurd (omega (arith, some))

own_event : (c : Core) (s : ℕ) (e : Event) → Steady c → 0 < effects_of c s e → IsOfOpenCall c e s ⊎ IsOfEndedCall c e s
own_event c s (begins t call) steady some =
    elim (cases_eq t s) [
      | inl own ↦
          let told = own_begin_effects c s call steady in
          let here : 0 < effects_of c s (begins s call) = rw own at some in
          let ended = ended_told (begin c s call).turn (omega (arith, told, here)) in
          rw own (inr (call, ended.0, refl, ended.1))
      | inr other ↦ absurd (let none : 0 < 0 = rw (ne_eqb t s other) at some in omega (arith, none))
    ]
own_event c s (makes t) steady some =
    elim (cases_eq t s) [
      | inl own ↦ elim (cases_Bool (is_call (seat c.seats s).point)) [
        | inl inside ↦ rw own (inl (refl, inside))
        | inr outside ↦
            let sum = own_step_effects c s steady in
            let none = idles c s (seat c.seats s).point refl outside in
            let here : 0 < effects_of c s (makes s) = rw own at some in
            absurd (omega (arith, sum, none, here))
      ]
      | inr other ↦ absurd (let none : 0 < 0 = rw (ne_eqb t s other) at some in omega (arith, none))
    ]

pub effects_are_of_calls : EffectsAreOfCalls
effects_are_of_calls c s e steady some = own_event c s e steady some

-- What the readings before and after determine of the step between them

carried_so : (d : Core) (b : AbstractMutex) (s : ℕ) (how : Carrying) → Reads d b → carrying_at s (seat d.seats s).point ≡ Some how → b.place ≡ carried s how
carried_so d b s how reads here = sym (reads.place.only (carried s how) (by_call s how here refl))

same_agent : (s t x y : ℕ) → carried s (entering x) ≡ carried t (entering y) → s ≡ t
same_agent s t x y e = cc

same_entrant : (s t x y : ℕ) → carried s (entering x) ≡ carried t (entering y) → x ≡ y
same_entrant s t x y e = cc

same_leaver : (s t : ℕ) → carried s leaving ≡ carried t leaving → s ≡ t
same_leaver s t e = cc

asks_free : (a b : AbstractMutex) (s x : ℕ) (effect : AbstractStep a b) → case_of effect ≡ Runs.ask → a.place ≡ free → b.place ≡ carried s (entering x) → IsAskOf s x effect
asks_free a b s x (Abstract.ask_free agent y moves) named none after =
    let same = sym moves.after ∙ after in
    (same_agent agent s y x same, same_entrant agent s y x same)
asks_free a b s x (Abstract.ask_joins y taken nothing joins) named none after = absurd (taken none)
asks_free a b s x _ named none after = absurd (cc)

accepts : (a b : AbstractMutex) (s : ℕ) (effect : AbstractStep a b) → case_of effect ≡ Runs.accept → b.place ≡ carried s (entering s) → IsAcceptOf s effect
accepts a b s (Abstract.accept x moves) named after = same_agent x s x s (sym moves.after ∙ after)
accepts a b s _ named after = absurd (cc)

takes_grant : (a b : AbstractMutex) (s : ℕ) (effect : AbstractStep a b) → case_of effect ≡ Runs.take_up → b.place ≡ carried s (entering s) → IsTakeUpOf s effect
takes_grant a b s (Abstract.take_up x moves) named after = same_agent x s x s (sym moves.after ∙ after)
takes_grant a b s _ named after = absurd (cc)

releases : (a b : AbstractMutex) (s : ℕ) (effect : AbstractStep a b) → case_of effect ≡ Runs.release → b.place ≡ carried s leaving → IsReleaseOf s effect
releases a b s (Abstract.release x moves) named after = same_leaver x s (sym moves.after ∙ after)
releases a b s _ named after = absurd (cc)

-- the seat that starts to ask is the one for which the acting seat asks
joins_so : (d : Core) (s x y : ℕ) (a b : AbstractMutex) → Reads d a → Reads (step d s).core b → HasNothing a y → Joins a b y
    → asks_for (seat (step d s).core.seats s) s ≡ x → y ≡ x
joins_so d s x y a b before after nothing joins here =
    let asking : b.asking y ≡ true = joins.asking y ∙ rw (nothing.asking, eq-eqb y y refl) refl in
    let by = after.asks y asking in
    let counts : asks_for (seat (step d s).core.seats by.agent) by.agent ≡ y = by.counts in
    elim (cases_eq by.agent s) [
      | inl own ↦ sym (rw own at counts) ∙ here
      | inr other ↦
          let same = other_step d s by.agent other in
          let asked : Asks d y = record { agent = by.agent; some = by.some; counts = rw same at counts } in
          absurd (false≢true (sym nothing.asking ∙ before.asked y asked))
    ]

asks_joining : (d : Core) (s x : ℕ) (a b : AbstractMutex) → Reads d a → Reads (step d s).core b → (effect : AbstractStep a b) → case_of effect ≡ Runs.ask → a.place ≢ free
    → asks_for (seat (step d s).core.seats s) s ≡ x → IsAskOf s x effect
asks_joining d s x a b before after (Abstract.ask_free agent y moves) named taken here = absurd (taken moves.before)
asks_joining d s x a b before after (Abstract.ask_joins y some nothing joins) named taken here = joins_so d s x y a b before after nothing joins here
asks_joining d s x a b before after _ named taken here = absurd (cc)

-- The points at which calls have their effects

-- the effect of the step of seat s at this point
abbrev IsEffectAt : {a b : AbstractMutex} → ℕ → Point → AbstractStep a b → Type 0
IsEffectAt s LockCountAdd effect = IsAskOf s s effect
IsEffectAt s TryCountExchange effect = IsAskOf s s effect
IsEffectAt s (TryHandoffExchange seen) effect = IsAcceptOf s effect
IsEffectAt s (SendCountAdd t) effect = IsAskOf s t effect
IsEffectAt s (ReleaseOwnerStore releaser) effect = IsReleaseOf s effect
IsEffectAt s (ReceiveWakeLoad sleeper) effect = IsTakeUpOf s effect
IsEffectAt s _ effect = ⊥

record Named (d : Core) (s : ℕ) (a b : AbstractMutex) (p : Point) : Type 0 where
  effect : AbstractStep a b
  told : case_at d s (seat d.seats s) p ≡ Some (case_of effect)
  named : IsEffectAt s p effect

abbrev acts_at : Point → Bool
acts_at LockCountAdd = true
acts_at TryCountExchange = true
acts_at (TryHandoffExchange seen) = true
acts_at (SendCountAdd t) = true
acts_at (ReleaseOwnerStore releaser) = true
acts_at (ReceiveWakeLoad sleeper) = true
acts_at _ = false

neither : (b : Bool) (k l : Option Case) → effects_of_case k ≡ 0 → effects_of_case l ≡ 0 → effects_of_case (if b then k else l) ≡ 0
neither true k l first second = first
neither false k l first second = second

no_effect : (c : Core) (s : ℕ) (x : SeatState) (p : Point) → acts_at p ≡ false → effects_of_case (case_at c s x p) ≡ 0
no_effect c s x LockCountAdd other = absurd (false≢true (sym other))
no_effect c s x TryCountExchange other = absurd (false≢true (sym other))
no_effect c s x (TryHandoffExchange seen) other = absurd (false≢true (sym other))
no_effect c s x (SendCountAdd t) other = absurd (false≢true (sym other))
no_effect c s x (ReleaseOwnerStore releaser) other = absurd (false≢true (sym other))
no_effect c s x (ReceiveWakeLoad sleeper) other = absurd (false≢true (sym other))
no_effect c s x (EnterOwnerStore Entrant.Locker How.Free) other = refl
no_effect c s x (EnterOwnerStore Entrant.Locker (How.Queued stamp)) other = refl
no_effect c s x (EnterOwnerStore Entrant.Trier how) other = refl
no_effect c s x (EnterOwnerStore Entrant.Receiver how) other = refl
no_effect c s x (PushExchange pusher seen) other = neither (same_link c.push seen) _ _ refl refl
no_effect c s x (PushedHandoffExchange pusher seen) other = neither (same_handoff c.handoff seen) _ _ refl refl
no_effect c s x (ReleaseHandoffExchange releaser) other = neither (same_handoff c.handoff (record { seat = s; post = x.posts })) _ _ refl refl
no_effect c s x _ other = refl

-- All points

module _ (d : Core) (s : ℕ) (a b : AbstractMutex) (steady : Steady d) (is : IsSeat d.seats s) (before : Reads d a) (after : Reads (step d s).core b) where
  -- an ask while the mutex is free
  ask_of_free : (x : ℕ) → GoesBy (Some Runs.ask) a b → d.count ≡ 0 → carrying_at s (stepped d s).seat.point ≡ Some (entering x)
      → (effect : AbstractStep a b) × (case_of effect ≡ Runs.ask) × IsAskOf s x effect
  ask_of_free x goes none here =
      let place = carried_so (step d s).core b s (entering x) after (rw (own_after d s is) here) in
      (goes.0, goes.1, asks_free a b s x goes.0 goes.1 ((count_is_zero_if_free d a steady before).0 none) place)

  -- an ask while the mutex is not free
  ask_of_others : (x : ℕ) → GoesBy (Some Runs.ask) a b → d.count ≢ 0 → asks_for (stepped d s).seat s ≡ x
      → (effect : AbstractStep a b) × (case_of effect ≡ Runs.ask) × IsAskOf s x effect
  ask_of_others x goes some here =
      let taken : a.place ≢ free = λ e. some ((count_is_zero_if_free d a steady before).1 e) in
      (goes.0, goes.1, asks_joining d s x a b before after goes.0 goes.1 taken (rw (own_after d s is) here))

  lock_asks : (seat d.seats s).point ≡ LockCountAdd → GoesBy (case_at d s (seat d.seats s) LockCountAdd) a b → 0 < effects_of_case (case_at d s (seat d.seats s) LockCountAdd)
      → Named d s a b LockCountAdd
  lock_asks at goes some =
      elim (cases_eq d.count 0) [
        | inl none ↦
            let free = eq-eqb d.count 0 none in
            let by = ask_of_free s (rw free at goes) none (rw (at, at, free) refl) in
            record { effect = by.0; told = rw free (ap Some (sym by.1)); named = by.2 }
        | inr counted ↦ elim (cases_eq (seat d.seats s).depth 0) [
          | inl new ↦
              let others = ne_eqb d.count 0 counted in
              let depth = eq-eqb (seat d.seats s).depth 0 new in
              let asks : case_at d s (seat d.seats s) LockCountAdd ≡ Some Runs.ask = rw (others, depth) refl in
              let by = ask_of_others s (rw asks at goes) counted (rw (at, at, others, depth) refl) in
              record { effect = by.0; told = asks ∙ ap Some (sym by.1); named = by.2 }
          | inr held ↦
              let none : 0 < 0 = rw (ne_eqb d.count 0 counted, ne_eqb (seat d.seats s).depth 0 held) at some in
              absurd (omega (arith, none))
        ]
      ]

  try_asks : (seat d.seats s).point ≡ TryCountExchange → GoesBy (case_at d s (seat d.seats s) TryCountExchange) a b
      → 0 < effects_of_case (case_at d s (seat d.seats s) TryCountExchange) → Named d s a b TryCountExchange
  try_asks at goes some =
      elim (cases_eq d.count 0) [
        | inl none ↦
            let free = eq-eqb d.count 0 none in
            let by = ask_of_free s (rw free at goes) none (rw (at, at, free) refl) in
            record { effect = by.0; told = rw free (ap Some (sym by.1)); named = by.2 }
        | inr counted ↦ let none : 0 < 0 = rw (ne_eqb d.count 0 counted) at some in absurd (omega (arith, none))
      ]

  send_asks : (t : ℕ) → (seat d.seats s).point ≡ SendCountAdd t → GoesBy (Some Runs.ask) a b → Named d s a b (SendCountAdd t)
  send_asks t at goes =
      elim (cases_eq d.count 0) [
        | inl none ↦
            let by = ask_of_free t goes none (rw (at, at, eq-eqb d.count 0 none) refl) in
            record { effect = by.0; told = ap Some (sym by.1); named = by.2 }
        | inr counted ↦
            let by = ask_of_others t goes counted (rw (at, at, ne_eqb d.count 0 counted) refl) in
            record { effect = by.0; told = ap Some (sym by.1); named = by.2 }
      ]

  try_accepts : (seen : Handoff) → (seat d.seats s).point ≡ TryHandoffExchange seen → GoesBy (case_at d s (seat d.seats s) (TryHandoffExchange seen)) a b
      → 0 < effects_of_case (case_at d s (seat d.seats s) (TryHandoffExchange seen)) → Named d s a b (TryHandoffExchange seen)
  try_accepts seen at goes some =
      elim (cases_Bool (same_handoff d.handoff seen)) [
        | inl same ↦
            let by : GoesBy (Some Runs.accept) a b = rw same at goes in
            let place = carried_so (step d s).core b s (entering s) after (rw (own_after d s is, at, at, same) refl) in
            record { effect = by.0; told = rw same (ap Some (sym by.1)); named = accepts a b s by.0 by.1 place }
        | inr gone ↦ let none : 0 < 0 = rw gone at some in absurd (omega (arith, none))
      ]

  release_acts : (releaser : Releaser) → (seat d.seats s).point ≡ ReleaseOwnerStore releaser → GoesBy (Some Runs.release) a b → Named d s a b (ReleaseOwnerStore releaser)
  release_acts releaser at goes =
      let place = carried_so (step d s).core b s leaving after (rw (own_after d s is, at, at) refl) in
      record { effect = goes.0; told = ap Some (sym goes.1); named = releases a b s goes.0 goes.1 place }

  receive_acts : (sleeper : Sleeper) (w : Wake) → wake d.wakes s ≡ w → (seat d.seats s).point ≡ ReceiveWakeLoad sleeper → GoesBy (takes_up w) a b → 0 < effects_of_case (takes_up w)
      → Named d s a b (ReceiveWakeLoad sleeper)
  receive_acts sleeper (Wake.Grant stamp) word at goes some =
      let place = carried_so (step d s).core b s (entering s) after (rw (own_after d s is, at, at, word) refl) in
      record { effect = goes.0; told = rw word (ap Some (sym goes.1)); named = takes_grant a b s goes.0 goes.1 place }
  receive_acts sleeper _ word at goes some = absurd (omega (arith, some))

  named_at : (p : Point) → (seat d.seats s).point ≡ p → GoesBy (case_at d s (seat d.seats s) p) a b → 0 < effects_of_case (case_at d s (seat d.seats s) p) → Named d s a b p
  named_at LockCountAdd at goes some = lock_asks at goes some
  named_at TryCountExchange at goes some = try_asks at goes some
  named_at (TryHandoffExchange seen) at goes some = try_accepts seen at goes some
  named_at (SendCountAdd t) at goes some = send_asks t at goes
  named_at (ReleaseOwnerStore releaser) at goes some = release_acts releaser at goes
  named_at (ReceiveWakeLoad sleeper) at goes some = receive_acts sleeper (wake d.wakes s) refl at goes some
  named_at p at goes some = let none = no_effect d s (seat d.seats s) p refl in absurd (omega (arith, none, some))

-- The call of the effect

abbrev is_send : Call → Bool
is_send (SendLock t) = true
is_send _ = false

same_call : (kind call : Call) → is_send kind ≡ false → kind ≡ kind_of call → call ≡ kind
same_call kind (SendLock t) other e = absurd (false≢true (sym other ∙ ap is_send e))
same_call kind Lock other e = sym e
same_call kind TryLock other e = sym e
same_call kind Unlock other e = sym e
same_call kind StartWait other e = sym e
same_call kind Receive other e = sym e

effect_of_call : (a b : AbstractMutex) (call : Call) (s : ℕ) (p : Point) (effect : AbstractStep a b) → IsEffectAt s p effect → call_at p ≡ kind_of call
    → ((t : ℕ) → target_at p ≡ Some t → call ≡ SendLock t) → IsEffectOf call s effect
effect_of_call a b call s LockCountAdd effect named kind sends = rw (same_call Lock call refl kind) named
effect_of_call a b call s TryCountExchange effect named kind sends = rw (same_call TryLock call refl kind) (inl named)
effect_of_call a b call s (TryHandoffExchange seen) effect named kind sends = rw (same_call TryLock call refl kind) (inr named)
effect_of_call a b call s (SendCountAdd t) effect named kind sends = rw (sends t refl) named
effect_of_call a b call s (ReleaseOwnerStore Unlocker) effect named kind sends = rw (same_call Unlock call refl kind) named
effect_of_call a b call s (ReleaseOwnerStore Waiter) effect named kind sends = rw (same_call StartWait call refl kind) named
effect_of_call a b call s (ReceiveWakeLoad sleeper) effect named kind sends = rw (same_call Receive call refl kind) named
effect_of_call a b call s _ effect named kind sends = absurd named

pub effects_are_the_callers : EffectsAreTheCallers
effects_are_the_callers c s call events a b steady opens stays before after some =
    let d : Core = run_of (begin c s call).core events in
    let fits : Steady d = run_keeps c (begins s call ∷ events) steady in
    let last = run_stays (begin c s call).core s events stays in
    let kind = last.0 ∙ rw opens at (begin_says c s call) in
    let goes = events_are_their_cases d (makes s) a b fits before after in
    let by = named_at d s a b fits (seat_of_call d s last.1) before after (seat d.seats s).point refl goes some in
    (by.effect, by.told, effect_of_call a b call s (seat d.seats s).point by.effect by.named kind (λ t e. sends_so c s t call events opens stays e))
