-- An open call has had at most one effect, and a call that has ended as many as its turn says.
use Rattle.std.proofs.Common.{◌≡◌, ◌≢◌, ℕ, true, ◌+◌, ◌++◌, List, [], ◌∷◌, nat_eq, refl, sym, ap, inl, inr, arith}
use Rattle.std.proofs.lemmas.Bool.{cases_Bool, cases_eq, eq-eqb, ne_eqb}
use Rattle.std.specs.Prelude.{Some, None}
use Rattle.lfm_model.specs.declared.answers.Asked.TheVariants as Asked
use Rattle.lfm_model.specs.declared.answers.Locked.TheVariants as Locked
use Rattle.lfm_model.specs.declared.answers.Unlocked.{Unlocked}
use Rattle.lfm_protocol.specs.declared.answers.Answer.{Answer}
use Rattle.lfm_protocol.specs.declared.answers.Call.{Call}
use Rattle.lfm_protocol.specs.declared.answers.Turn.{Turn}
use Rattle.lfm_protocol.specs.declared.answers.Turn.TheVariants.{Open, Ended, Refused}
use Rattle.lfm_protocol.specs.declared.seats.SeatState.{SeatState}
use Rattle.lfm_protocol.specs.Begin as Begin
use Rattle.lfm_protocol.specs.Core.{Core, limits}
use Rattle.lfm_protocol.specs.Seats.{seat, is_seat}
use Rattle.lfm_protocol.specs.Step.{begin, step}
use Rattle.lfm_laws.specs.laws.Depths.{AnswersDepth, TurnsDepth}
use Rattle.lfm_laws.specs.laws.Effects.{effects_of_case, effects_of_depth, effects_of, effects_in, TurnsEffects, CallsTakeEffectOnce}
use Rattle.lfm_laws.specs.laws.Events.{case_of_step}
use Rattle.lfm_laws.specs.laws.Releases.{StaysInCall}
use Rattle.lfm_laws.specs.laws.Schedules.{Event, begins, makes, happens, run_of, is_call}
use Rattle.lfm_laws.specs.steady.Steady.{Steady}
use Rattle.lfm_laws.proofs.lawful.bounds.Leaving.{stepped, seat_of_call, begin_leaves}
use Rattle.lfm_laws.proofs.lawful.calls.CallsEnded.{first_inside, run_stays}
use Rattle.lfm_laws.proofs.lawful.calls.DepthsCounted.{depth_counts_holds}
use Rattle.lfm_laws.proofs.lawful.calls.EffectSteps.{effects_before, effects_before-le, effects_told, LeadsToEffects, step_effects, begin_effects}
use Rattle.lfm_laws.proofs.lawful.calls.WaitsTold.{own_after, own_turn, stays_open, other_step}
use Rattle.lfm_laws.proofs.lawful.runs.Reached.{run_keeps}
use Rattle.lfm_laws.proofs.steady.frames.Entries.{seat-with_same}
use Rattle.lfm_laws.proofs.steady.frames.Seated.{seat_of_test}

-- A change of the depth is an effect exactly if the turn answers it

none_before : (before after : ℕ) → before ≡ 0 → effects_of_depth before after ≡ 0
none_before before after none = rw (eq-eqb before 0 none) refl

none_after : (before after : ℕ) → after ≡ 0 → effects_of_depth before after ≡ 0
none_after before after none =
    elim (cases_Bool (nat_eq before 0)) [
      | inl first ↦ rw first refl
      | inr held ↦ rw (held, eq-eqb after 0 none) refl
    ]

none_changed : (before after : ℕ) → after ≡ before → effects_of_depth before after ≡ 0
none_changed before after same =
    elim (cases_Bool (nat_eq before 0)) [
      | inl first ↦ rw first refl
      | inr held ↦ elim (cases_Bool (nat_eq after 0)) [
        | inl last ↦ rw (held, last) refl
        | inr holds ↦ rw (held, holds, eq-eqb after before same) refl
      ]
    ]

one_changed : (before after : ℕ) → before ≢ 0 → after ≢ 0 → after ≢ before → effects_of_depth before after ≡ 1
one_changed before after held holds other = rw (ne_eqb before 0 held, ne_eqb after 0 holds, ne_eqb after before other) refl

answer_depth : (before after : ℕ) (answer : Answer) → AnswersDepth before after answer → effects_of_depth before after ≡ effects_told (Ended answer)
answer_depth before after (Answer.Asked (Asked.Held how)) says = none_before before after says.0
answer_depth before after (Answer.Asked (Asked.Again n)) says =
    let one = says.0 in
    let more = says.1 in
    one_changed before after (omega (arith, one)) (omega (arith, more)) (omega (arith, more))
answer_depth before after (Answer.Asked Asked.Asleep) says = none_before before after says.0
answer_depth before after (Answer.Locked (Locked.Held how)) says = none_before before after says.0
answer_depth before after (Answer.Locked (Locked.Again n)) says =
    let one = says.0 in
    let more = says.1 in
    one_changed before after (omega (arith, one)) (omega (arith, more)) (omega (arith, more))
answer_depth before after (Answer.Unlocked (Unlocked.Still n)) says =
    let less = says.0 in
    let one = says.1 in
    one_changed before after (omega (arith, less)) (omega (arith, one)) (omega (arith, less))
answer_depth before after (Answer.Unlocked _) says = none_before before after says.0
answer_depth before after (Answer.Waiting released) says = none_before before after says.0
answer_depth before after (Answer.Got None) says = none_before before after says.0
answer_depth before after (Answer.Got (Some how)) says = none_before before after says.0
answer_depth before after Answer.Sent says = none_changed before after says

turn_depth : (c d : Core) (s : ℕ) (turn : Turn) → TurnsDepth c d s turn → effects_of_depth (seat c.seats s).depth (seat d.seats s).depth ≡ effects_told turn
turn_depth c d s Open (inl gives) = none_after (seat c.seats s).depth (seat d.seats s).depth gives.after
turn_depth c d s Open (inr keeps) = none_changed (seat c.seats s).depth (seat d.seats s).depth keeps.depth
turn_depth c d s (Ended answer) says = answer_depth (seat c.seats s).depth (seat d.seats s).depth answer says
turn_depth c d s (Refused why) keeps = none_changed (seat c.seats s).depth (seat d.seats s).depth keeps.depth

-- Events of the seat

pub own_step_effects : (c : Core) (s : ℕ) → Steady c → effects_of c s (makes s) ≡ effects_of_case (case_of_step c s) + effects_told (step c s).turn
own_step_effects c s steady =
    let depth = turn_depth c (step c s).core s (step c s).turn (depth_counts_holds c (makes s) steady).1 in
    rw (eq-eqb s s refl) (omega (arith, depth))

pub own_begin_effects : (c : Core) (s : ℕ) (call : Call) → Steady c → effects_of c s (begins s call) ≡ effects_told (begin c s call).turn
own_begin_effects c s call steady =
    let depth = turn_depth c (begin c s call).core s (begin c s call).turn (depth_counts_holds c (begins s call) steady).1 in
    rw (eq-eqb s s refl) (omega (arith, depth))

-- how many effects the open call of seat s has had
abbrev had : Core → ℕ → ℕ
had c s = effects_before (seat c.seats s).depth (seat c.seats s).point

had_same : (c d : Core) (s : ℕ) → seat d.seats s ≡ seat c.seats s → had d s ≡ had c s
had_same c d s same = ap (λ x. effects_before x.depth x.point) same

-- what a step of an open call leads to
own_leads : (c : Core) (s : ℕ) → Steady c → is_call (seat c.seats s).point ≡ true
    → LeadsToEffects (step c s).turn (seat (step c s).core.seats s) (had c s + effects_of c s (makes s))
own_leads c s steady inside =
    let is = seat_of_call c s inside in
    let leads = (step_effects c steady.ghost_state s (seat c.seats s).point steady.fits refl inside).leads in
    let turn = own_turn c s is in
    let sum : had c s + effects_of c s (makes s) ≡ had c s + effects_of_case (case_of_step c s) + effects_told (stepped c s).turn =
    let one = own_step_effects c s steady in let told = ap effects_told turn in omega (arith, one, told) in
    rw (sum, turn, own_after c s is) leads

-- what the start of a call leads to
begin_leads : (c : Core) (s : ℕ) (call : Call) → Steady c → LeadsToEffects (begin c s call).turn (seat (begin c s call).core.seats s) (effects_of c s (begins s call))
begin_leads c s call steady =
    let m = Begin.begin (seat c.seats s) (limits c) call in
    let leads = (begin_effects (seat c.seats s) (limits c) call (seat c.seats s).point).leads in
    let told = own_begin_effects c s call steady in
    let sum : effects_of c s (begins s call) ≡ 0 + effects_of_case None + effects_told (begin c s call).turn = omega (arith, told) in
    elim (cases_Bool (is_seat c.seats s)) [
      | inl is ↦ rw (sum, is, seat-with_same c.seats s m.seat (seat_of_test c.seats s is)) leads
      | inr none ↦ rw (sum, none) refl
    ]

-- Events through which a call stays open

others_begin : (c : Core) (t s : ℕ) (call : Call) → is_call (seat c.seats s).point ≡ true → effects_of c s (begins t call) ≡ 0
others_begin c t s call inside =
    let view = (begin_leaves c t s call inside).view in
    elim (cases_Bool (nat_eq t s)) [
      | inl own ↦
          let same = none_changed (seat c.seats s).depth (seat (begin c t call).core.seats s).depth (ap (λ x. x.depth) view) in
          rw own (omega (arith, same))
      | inr other ↦ rw other refl
    ]

event_adds : (c : Core) (e : Event) (s : ℕ) → Steady c → is_call (seat c.seats s).point ≡ true → is_call (seat (happens c e).core.seats s).point ≡ true
    → had c s + effects_of c s e ≡ had (happens c e).core s
event_adds c (begins t call) s steady inside still =
    let none = others_begin c t s call inside in
    let same = had_same c (begin c t call).core s (begin_leaves c t s call inside).view in
    omega (arith, none, same)
event_adds c (makes t) s steady inside still =
    elim (cases_eq t s) [
      | inl own ↦
          let opens = stays_open c s inside (rw own at still) in
          rw own (rw opens at (own_leads c s steady inside))
      | inr other ↦
          let same = had_same c (step c t).core s (other_step c t s (λ e. other (sym e))) in
          rw (ne_eqb t s other) (omega (arith, same))
    ]

run_adds : (c : Core) (s : ℕ) (events : List Event) → Steady c → StaysInCall c s events → had c s + effects_in c s events ≡ had (run_of c events) s
run_adds c s [] steady stays = omega arith
run_adds c s (e ∷ later) steady stays =
    let one = event_adds c e s steady stays.0 (first_inside (happens c e).core s later stays.1) in
    let rest = run_adds (happens c e).core s later (run_keeps c (e ∷ []) steady) stays.1 in
    omega (arith, one, rest)

one_more : (c : Core) (s : ℕ) (events : List Event) (e : Event) → effects_in c s (events ++ e ∷ []) ≡ effects_in c s events + effects_of (run_of c events) s e
one_more c s [] e = omega arith
one_more c s (first ∷ later) e = let rest = one_more (happens c first).core s later e in omega (arith, rest)

-- Whole calls

turns_so : (turn : Turn) (x : SeatState) (n : ℕ) → LeadsToEffects turn x n → TurnsEffects turn n
turns_so Open x n leads = let one = effects_before-le x.depth x.point in omega (arith, one, leads)
turns_so (Ended answer) x n leads = leads
turns_so (Refused why) x n leads = leads

begun : (c : Core) (s : ℕ) (call : Call) → Steady c → TurnsEffects (begin c s call).turn (effects_in c s (begins s call ∷ []))
begun c s call steady =
    let first = turns_so (begin c s call).turn (seat (begin c s call).core.seats s) (effects_of c s (begins s call)) (begin_leads c s call steady) in
    let sum : effects_in c s (begins s call ∷ []) ≡ effects_of c s (begins s call) = omega arith in
    rw sum first

-- the effects of a call that has begun and is still open after these events
until : (c : Core) (s : ℕ) (call : Call) (events : List Event) → Steady c → (begin c s call).turn ≡ Open → StaysInCall (begin c s call).core s events
    → effects_in c s (begins s call ∷ events) ≡ had (run_of (begin c s call).core events) s
until c s call events steady opens stays =
    let first = rw opens at (begin_leads c s call steady) in
    let rest = run_adds (begin c s call).core s events (run_keeps c (begins s call ∷ []) steady) stays in
    omega (arith, first, rest)

last : (c : Core) (s : ℕ) (call : Call) (events : List Event) → Steady c → (begin c s call).turn ≡ Open → StaysInCall (begin c s call).core s events
    → TurnsEffects (step (run_of (begin c s call).core events) s).turn (effects_in c s (begins s call ∷ (events ++ makes s ∷ [])))
last c s call events steady opens stays =
    let d = run_of (begin c s call).core events in
    let inside = (run_stays (begin c s call).core s events stays).1 in
    let leads = own_leads (run_of (begin c s call).core events) s (run_keeps c (begins s call ∷ events) steady) inside in
    let before = until c s call events steady opens stays in
    let more = one_more (begin c s call).core s events (makes s) in
    let sum : effects_in c s (begins s call ∷ (events ++ makes s ∷ [])) ≡ had (run_of (begin c s call).core events) s + effects_of (run_of (begin c s call).core events) s (makes s) =
    omega (arith, before, more) in
    rw sum (turns_so (step d s).turn (seat (step d s).core.seats s) _ leads)

pub calls_take_effect_once : CallsTakeEffectOnce
calls_take_effect_once c s call events steady = (
  begun c s call steady,
  λ opens stays.
      let so = until c s call events steady opens stays in
      let d = run_of (begin c s call).core events in
      let one = effects_before-le (seat d.seats s).depth (seat d.seats s).point in
      (omega (arith, so, one), last c s call events steady opens stays),
)
