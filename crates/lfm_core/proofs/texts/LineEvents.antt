-- Events change a state as the lines that they belong to do, with the same answers.
use Rattle.std.proofs.Common.{◌≡◌, ℕ, zero, suc, Bool, true, false, ◌+◌, ◌&&◌, nat_eq, nat_lt, List, [], ◌∷◌, ◌++◌, if◌then◌else◌, refl, sym, ap, ◌∙◌, inl, inr}
use Rattle.std.proofs.lemmas.Bool.{cases_Bool}
use Rattle.std.proofs.lemmas.List.{append_assoc, append-nil}
use Rattle.lfm_protocol.specs.declared.answers.Call.{Call}
use Rattle.lfm_protocol.specs.declared.answers.Call.TheVariants.{Lock, TryLock, Unlock, StartWait, SendLock, Receive}
use Rattle.lfm_protocol.specs.declared.answers.Turn.{Turn}
use Rattle.lfm_protocol.specs.declared.answers.Turn.TheVariants.{Open, Ended, Refused}
use Rattle.lfm_protocol.specs.declared.limits.Limits.{Limits}
use Rattle.lfm_protocol.specs.declared.points.Point.{Point}
use Rattle.lfm_protocol.specs.declared.points.Point.TheVariants.{Rest, Asleep, LockCountAdd, TryCountExchange, ReleaseOwnerStore}
use Rattle.lfm_protocol.specs.declared.points.Releaser.TheVariants.{Waiter}
use Rattle.lfm_protocol.specs.declared.points.Sleeper.{Sleeper}
use Rattle.lfm_core.specs.declared.text.schedule.Act.{Act}
use Rattle.lfm_core.specs.declared.text.schedule.Act.TheVariants.{Begin, Steps, ToEnd}
use Rattle.lfm_core.specs.declared.text.schedule.Line.{Line}
use Rattle.lfm_protocol.specs.declared.seats.SeatState.{SeatState}
use Rattle.lfm_protocol.specs.Begin as Begin
use Rattle.lfm_protocol.specs.Begin.{Stepped}
use Rattle.lfm_protocol.specs.Core.{Core, limits}
use Rattle.lfm_laws.specs.laws.Events.{answered_by}
use Rattle.lfm_core.specs.text.LineEvents.{events_of_steps, events_of_act, events_of_line, events_of_lines, last_turn, last_turns, answer_record_of_lines, LinesAreEvents}
use Rattle.lfm_core.specs.text.Lines.{steps, act_moved, line_moved, lines_core, lines_turns}
use Rattle.lfm_protocol.specs.Turns.{is_open, longest_call}
use Rattle.lfm_laws.specs.laws.Schedules.{Event, happens, run_of, answered_in, answer_record}
use Rattle.lfm_protocol.specs.Seats.{seat, is_seat}
use Rattle.lfm_protocol.specs.Step.{begin, step}

pub run_of-append : (c : Core) (early late : List Event) → run_of c (early ++ late) ≡ run_of (run_of c early) late
run_of-append c [] late = refl
run_of-append c (e ∷ early) late = run_of-append (happens c e).core early late

steps_are_events : (most : ℕ) (c : Core) (s : ℕ) → (steps most c s).core ≡ run_of c (events_of_steps most c s)
steps_are_events zero c s = refl
steps_are_events (suc most) c s =
    elim (cases_Bool (is_open (step c s).turn)) [
      | inl on ↦ rw on (steps_are_events most (step c s).core s)
      | inr closed ↦ rw closed refl
    ]

act_is_events : (c : Core) (s : ℕ) (act : Act) → (act_moved c s act).core ≡ run_of c (events_of_act c s act)
act_is_events c s (Begin call) = refl
act_is_events c s (Steps most) = steps_are_events most c s
act_is_events c s ToEnd = steps_are_events (longest_call c) c s

line_is_events : (c : Core) (line : Line) → (line_moved c line).core ≡ run_of c (events_of_line c line)
line_is_events c line = act_is_events c line.seat line.act

lines_are_their_events : (c : Core) (lines : List Line) → lines_core c lines ≡ run_of c (events_of_lines c lines)
lines_are_their_events c [] = refl
lines_are_their_events c (line ∷ lines) =
    let now : List Event = events_of_line c line in
    lines_are_their_events (line_moved c line).core lines
    ∙ ap (λ d. run_of d (events_of_lines d lines)) (line_is_events c line)
    ∙ sym (run_of-append c now (events_of_lines (run_of c now) lines))

-- The turns

open_turn : (turn : Turn) → is_open turn ≡ true → Open ≡ turn
open_turn Open on = refl
open_turn (Ended answer) on = absurd (cc)
open_turn (Refused why) on = absurd (cc)

steps_turn : (most : ℕ) (c : Core) (s : ℕ) (before : Turn) → is_open before ≡ true → (steps most c s).turn ≡ last_turn c (events_of_steps most c s) before
steps_turn zero c s before on = open_turn before on
steps_turn (suc most) c s before on =
    elim (cases_Bool (is_open (step c s).turn)) [
      | inl still ↦ rw still (steps_turn most (step c s).core s (step c s).turn still)
      | inr closed ↦ rw closed refl
    ]

act_turn : (c : Core) (s : ℕ) (act : Act) → (act_moved c s act).turn ≡ last_turn c (events_of_act c s act) Open
act_turn c s (Begin call) = refl
act_turn c s (Steps most) = steps_turn most c s Open refl
act_turn c s ToEnd = steps_turn (longest_call c) c s Open refl

lines_turn : (c : Core) (lines : List Line) → lines_turns c lines ≡ last_turns c lines
lines_turn c [] = refl
lines_turn c (line ∷ lines) =
    ap (λ turns. (line_moved c line).turn ∷ turns) (lines_turn (line_moved c line).core lines)
    ∙ ap (λ d. (line_moved c line).turn ∷ last_turns d lines) (line_is_events c line)
    ∙ ap (λ turn. turn ∷ last_turns (run_of c (events_of_line c line)) lines) (act_turn c line.seat line.act)

-- The answers

-- a turn that leaves the call open has no answer
open_answers : (s : ℕ) (turn : Turn) → is_open turn ≡ true → answered_by s turn ≡ []
open_answers s Open on = refl
open_answers s (Ended answer) on = absurd (cc)
open_answers s (Refused why) on = refl

-- the start of a call has no answer Held
abbrev IsSilent : ℕ → Stepped → Type 0
IsSilent s m = answered_by s m.turn ≡ []

either_silent : (s : ℕ) (test : Bool) (m n : Stepped) → IsSilent s m → IsSilent s n → IsSilent s (if test then m else n)
either_silent s true m n first second = first
either_silent s false m n first second = second

charges_silent : (s : ℕ) (x : SeatState) (budget : ℕ) (p : Point) → IsSilent s (Begin.charges x budget p)
charges_silent s x budget p = either_silent s (nat_lt x.takes budget) _ _ refl refl

entry_silent : (s : ℕ) (x : SeatState) (budget : ℕ) (p : Point) → IsSilent s (Begin.begin_entry x budget p)
entry_silent s x budget p =
    either_silent s (nat_lt 65534 x.depth) _ _ refl (either_silent s (nat_eq x.depth 0) _ _ (charges_silent s x budget p) refl)

awake_silent : (s : ℕ) (x : SeatState) (limits : Limits) (call : Call) → IsSilent s (Begin.begin_awake x limits call)
awake_silent s x limits Lock = entry_silent s x limits.budget LockCountAdd
awake_silent s x limits TryLock = entry_silent s x limits.budget TryCountExchange
awake_silent s x limits Unlock = either_silent s (nat_eq x.depth 0) _ _ refl (either_silent s (nat_eq x.depth 1) _ _ refl refl)
awake_silent s x limits StartWait =
    either_silent s (nat_eq x.depth 0) _ _ refl
    (either_silent s (nat_lt 1 x.depth) _ _ refl (charges_silent s x limits.budget (ReleaseOwnerStore Waiter)))
awake_silent s x limits (SendLock t) = either_silent s (nat_lt 0 t && nat_lt t (limits.seats + 1)) _ _ refl refl
awake_silent s x limits Receive = refl

asleep_silent : (s : ℕ) (x : SeatState) (sleeper : Sleeper) (call : Call) → IsSilent s (Begin.begin_asleep x sleeper call)
asleep_silent s x sleeper Receive = refl
asleep_silent s x sleeper _ = refl

begin_silent : (s : ℕ) (x : SeatState) (limits : Limits) (call : Call) (p : Point) → IsSilent s (Begin.begin_at x limits call p)
begin_silent s x limits call Rest = awake_silent s x limits call
begin_silent s x limits call (Asleep sleeper) = asleep_silent s x sleeper call
begin_silent s x limits call _ = refl

begin_answers : (c : Core) (s : ℕ) (call : Call) → answered_by s (begin c s call).turn ≡ []
begin_answers c s call =
    elim (cases_Bool (is_seat c.seats s)) [
      | inl is ↦ rw is (begin_silent s (seat c.seats s) (limits c) call (seat c.seats s).point)
      | inr none ↦ rw none refl
    ]

answers-append : (c : Core) (early late : List Event) → answer_record c (early ++ late) ≡ answer_record c early ++ answer_record (run_of c early) late
answers-append c [] late = refl
answers-append c (e ∷ early) late =
    ap (λ l. answered_in c e ++ l) (answers-append (happens c e).core early late)
    ∙ sym (append_assoc (answered_in c e) (answer_record (happens c e).core early) (answer_record (run_of c (e ∷ early)) late))

steps_answer : (most : ℕ) (c : Core) (s : ℕ) → answered_by s (steps most c s).turn ≡ answer_record c (events_of_steps most c s)
steps_answer zero c s = refl
steps_answer (suc most) c s =
    elim (cases_Bool (is_open (step c s).turn)) [
      | inl on ↦ rw (on, open_answers s (step c s).turn on) (steps_answer most (step c s).core s)
      | inr closed ↦ rw closed (sym (append-nil (answered_by s (step c s).turn)))
    ]

act_answers : (c : Core) (s : ℕ) (act : Act) → answered_by s (act_moved c s act).turn ≡ answer_record c (events_of_act c s act)
act_answers c s (Begin call) = begin_answers c s call
act_answers c s (Steps most) = steps_answer most c s
act_answers c s ToEnd = steps_answer (longest_call c) c s

lines_answer : (c : Core) (lines : List Line) → answer_record_of_lines c lines ≡ answer_record c (events_of_lines c lines)
lines_answer c [] = refl
lines_answer c (line ∷ lines) =
    let now : List Event = events_of_line c line in
    let d : Core = (line_moved c line).core in
    ap (λ l. l ++ answer_record_of_lines d lines) (act_answers c line.seat line.act)
    ∙ ap (λ l. answer_record c now ++ l) (lines_answer d lines)
    ∙ ap (λ e. answer_record c now ++ answer_record e (events_of_lines e lines)) (line_is_events c line)
    ∙ sym (answers-append c now (events_of_lines (run_of c now) lines))

pub lines_are_events : LinesAreEvents
lines_are_events c lines =
    record { core = lines_are_their_events c lines; turns = lines_turn c lines; answers = lines_answer c lines }
