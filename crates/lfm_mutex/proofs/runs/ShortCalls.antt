-- The calls that no other seat can prolong, try_lock and try_receive: they make few steps, whatever these find.
use Rattle.std.proofs.Common.{◌≡◌, ◌≢◌, ◌⊎◌, inl, inr, ℕ, ◌+◌, ◌≤◌, List, [], ◌∷◌, ◌++◌, length, length-append, Bool, true, false, nat_eq, Option, None, Result, Ok, Err, refl, sym, ap, subst, ◌∙◌, arith}
use Rattle.std.proofs.lemmas.Bool.{false≢true}
use Rattle.lfm_model.specs.declared.answers.How.{How}
use Rattle.lfm_model.specs.declared.answers.Locked.{Locked}
use Rattle.lfm_model.specs.declared.refusals.Refusal.{Refusal}
use Rattle.lfm_words.specs.declared.pop_lists.Record.{Record}
use Rattle.lfm_words.specs.declared.wakes.Wake.{Wake}
use Rattle.lfm_words.specs.declared.wakes.Wake.TheVariants.{Grant}
use Rattle.lfm_protocol.specs.declared.answers.Answer.{Answer}
use Rattle.lfm_protocol.specs.declared.answers.Call.{Call}
use Rattle.lfm_protocol.specs.declared.answers.Turn.{Turn}
use Rattle.lfm_protocol.specs.declared.answers.Turn.TheVariants.{Open, Ended, Refused}
use Rattle.lfm_protocol.specs.declared.answers.Why.TheVariants.{Idle}
use Rattle.lfm_protocol.specs.declared.kinds.Kind.{Kind}
use Rattle.lfm_protocol.specs.declared.limits.Limits.{Limits}
use Rattle.lfm_protocol.specs.declared.points.Point.{Point}
use Rattle.lfm_protocol.specs.declared.points.Point.TheVariants.{Rest, Asleep, TryCountExchange, TryOwnerLoad, TryHandoffLoad, TryHandoffExchange, TryCountAdd, EnterOwnerStore, ReceiveWakeLoad, ReceiveWakeStore}
use Rattle.lfm_protocol.specs.declared.points.Sleeper.{Sleeper}
use Rattle.lfm_protocol.specs.declared.seats.SeatState.{SeatState}
use Rattle.lfm_protocol.specs.After.{same_handoff, busy, receives}
use Rattle.lfm_protocol.specs.Begin as Begin
use Rattle.lfm_protocol.specs.Begin.{Stepped, goes_on}
use Rattle.lfm_protocol.specs.Points.{kind}
use Rattle.lfm_laws.specs.table.Words.{stepped_by, stepped_of, handoff_of, wake_of}
use Rattle.lfm_table.proofs.tables.StepFacts.{made_of}
use Rattle.lfm_mutex.specs.calls.Runs.{end_of, trail_of, opens}
use Rattle.lfm_mutex.specs.calls.Sight.{Sight, Locks, Receives, BusySeen}
use Rattle.lfm_mutex.specs.calls.Trails.{Seen, CallEnds, MakesCall, MakesAtMost}
use Rattle.lfm_mutex.proofs.runs.CallStarts.{start_at}
use Rattle.lfm_mutex.proofs.runs.Tests.{if_both}

abbrev pub left_at : Point → ℕ
left_at TryCountExchange = 6
left_at TryOwnerLoad = 5
left_at TryHandoffLoad = 4
left_at (TryHandoffExchange old) = 3
left_at TryCountAdd = 2
left_at (EnterOwnerStore entrant how) = 1
left_at (ReceiveWakeLoad sleeper) = 3
left_at (ReceiveWakeStore stamp) = 2
left_at _ = 0

abbrev pub is_short : Point → Bool
is_short Rest = true
is_short (Asleep sleeper) = true
is_short TryCountExchange = true
is_short TryOwnerLoad = true
is_short TryHandoffLoad = true
is_short (TryHandoffExchange old) = true
is_short TryCountAdd = true
is_short (EnterOwnerStore entrant how) = true
is_short (ReceiveWakeLoad sleeper) = true
is_short (ReceiveWakeStore stamp) = true
is_short _ = false

-- a point of these calls, with at most this number of steps left
abbrev pub Short : ℕ → Point → Type 0
Short k p = (is_short p ≡ true) × (left_at p ≤ k)

-- the same after a turn
abbrev ShortAfter : ℕ → Stepped → Type 0
ShortAfter k st = Short k st.seat.point

short_receives : (x : SeatState) (sleeper : Sleeper) (w : Wake) → Short 2 (receives x sleeper w).seat.point
short_receives x sleeper (Grant stamp) = (refl, omega arith)
short_receives x sleeper _ = (refl, omega arith)

-- a step from such a point leads to another one, with fewer steps left; otherwise the seat has no next step
abbrev pub StepsShort : ℕ → Stepped → Type 0
StepsShort k st = (j : ℕ) × (j + 1 ≤ k) × Short j st.seat.point

abbrev pub GoesShort : ℕ → Point → Stepped → Type 0
GoesShort k q st = (kind q ≡ None) ⊎ StepsShort k st

pub short_step_at : (d t ps s n k : ℕ) (o : Option Record) (q : Point) → Short k q → GoesShort k q (stepped_by (made_of d t ps q) s n o)
short_step_at d t ps s n k o Rest short = inl refl
short_step_at d t ps s n k o (Asleep sleeper) short = inl refl
short_step_at d t ps s n k o TryCountExchange short = inr (5, short.1, if_both (Short 5) (nat_eq n 0) _ _ (refl, omega arith) (refl, omega arith))
short_step_at d t ps s n k o TryOwnerLoad short = inr (4, short.1, if_both (ShortAfter 4) (nat_eq n s) _ (goes_on (made_of d t ps TryOwnerLoad) TryHandoffLoad) (refl, omega arith) (refl, omega arith))
short_step_at d t ps s n k o TryHandoffLoad short = inr (3, short.1, if_both (ShortAfter 3) (nat_eq (handoff_of n).seat 0) (busy (made_of d t ps TryHandoffLoad)) _ (refl, omega arith) (refl, omega arith))
short_step_at d t ps s n k o (TryHandoffExchange old) short = inr (2, short.1, if_both (ShortAfter 2) (same_handoff (handoff_of n) old) _ (busy (made_of d t ps (TryHandoffExchange old))) (refl, omega arith) (refl, omega arith))
short_step_at d t ps s n k o TryCountAdd short = inr (1, short.1, (refl, omega arith))
short_step_at d t ps s n k o (EnterOwnerStore entrant how) short = inr (0, short.1, (refl, omega arith))
short_step_at d t ps s n k o (ReceiveWakeLoad sleeper) short = inr (2, short.1, short_receives (made_of d t ps (ReceiveWakeLoad sleeper)) sleeper (wake_of n))
short_step_at d t ps s n k o (ReceiveWakeStore stamp) short = inr (1, short.1, (refl, omega arith))
short_step_at d t ps s n k o _ short = absurd (false≢true short.0)

pub idle_step : (x : SeatState) (s n : ℕ) (o : Option Record) → kind x.point ≡ None → stepped_by x s n o ≡ record { seat = x; turn = Refused Idle }
idle_step x s n o none = ap (λ (k : Option Kind). stepped_of x s n o k) none

-- a seat without a next step stays idle
pub idle_run : (s : ℕ) (x : SeatState) (finds : List (ℕ × Option Record)) → kind x.point ≡ None → (end_of s (record { seat = x; turn = Refused Idle }) finds).turn ≡ Refused Idle
idle_run s x [] none = refl
idle_run s x (f ∷ finds) none = ap (λ (z : Stepped). (end_of s z finds).turn) (idle_step x s f.0 f.1 none) ∙ idle_run s x finds none

-- By induction on the steps: a run that doesn't end as idle has at most this number of steps.
short_run : (s : ℕ) (finds : List (ℕ × Option Record)) (k : ℕ) (st : Stepped) → Short k st.seat.point → (end_of s st finds).turn ≢ Refused Idle → length finds ≤ k
short_run s [] k st short some = omega arith
short_run s (f ∷ finds) k st short some =
    elim (short_step_at st.seat.depth st.seat.takes st.seat.posts s f.0 k f.1 st.seat.point short) [
      | inl none ↦ absurd (some (ap (λ (z : Stepped). (end_of s z finds).turn) (idle_step st.seat s f.0 f.1 none) ∙ idle_run s st.seat finds none))
      | inr less ↦ let h = short_run s finds less.0 (stepped_by st.seat s f.0 f.1) less.2 some in let e = less.1 in omega (arith, h, e)
    ]

long_as : (s : ℕ) (x : SeatState) (finds : List (ℕ × Option Record)) → length (trail_of s x finds) ≡ length finds
long_as s x [] = refl
long_as s x (f ∷ finds) = let h = long_as s (stepped_by x s f.0 f.1).seat finds in omega (arith, h)

-- The points at which the calls start

abbrev pub OpensShort : ℕ → Stepped → Type 0
OpensShort k st = st.turn ≡ Open → Short k st.seat.point

pub try_opens : (x : SeatState) (l : Limits) (p : Point) → OpensShort 6 (Begin.begin_at x l Call.TryLock p)
try_opens x l p = start_at (OpensShort 6) x l Call.TryLock p (λ why e. absurd (cc)) (λ q is e. subst (Short 6) (sym is) (refl, omega arith)) (λ d is e. absurd (cc))

pub receive_opens : (x : SeatState) (l : Limits) (p : Point) → OpensShort 3 (Begin.begin_at x l Call.Receive p)
receive_opens x l p = start_at (OpensShort 3) x l Call.Receive p (λ why e. absurd (cc)) (λ q is e. subst (Short 3) (sym is.1) (refl, omega arith)) (λ d is e. absurd (cc))

-- The calls

leads_few : (first : Turn) (n k : ℕ) (q y : SeatState) (turn : Turn) (trail trail' : List Seen) → (first ≡ Open → Short k q.point) → turn ≢ Refused Idle → CallEnds first n q trail turn y trail' → length trail' ≤ length trail + k
leads_few Open n k q y turn trail trail' short some leads =
    let most = short_run n leads.0 k (opens q) (short refl) (λ e. some (sym (ap (λ (z : Stepped). z.turn) leads.1) ∙ e)) in
    let long = long_as n q leads.0 in
    let more = ap (λ (l : List Seen). length l) leads.2 ∙ length-append trail (trail_of n q leads.0) in
    omega (arith, most, long, more)
leads_few _ n k q y turn trail trail' short some leads = let same = ap (λ (l : List Seen). length l) leads.2 in omega (arith, same)

unchanged : {T : Type 0} (s t : Sight T) (k : ℕ) → t ≡ s → MakesAtMost k s t
unchanged {T} s t k same = let e = ap (λ (x : Sight T). length x.trail) same in omega (arith, e)

-- a call that is refused as Busy has made three or four steps
busy_few : (s : ℕ) (trail trail' new : List Seen) → trail' ≡ trail ++ new → BusySeen s new → length trail' ≤ length trail + 6
busy_few s trail trail' new adds busy =
    let more = ap (λ (l : List Seen). length l) adds ∙ length-append trail new in
    elim busy.5 [
      | inl none ↦ let few = ap (λ (l : List Seen). length l) none.1 in omega (arith, more, few)
      | inr gone ↦ let few = ap (λ (l : List Seen). length l) gone.3 in omega (arith, more, few)
    ]

pub tries_few : {T : Type 0} (follows : ℕ → T → T → Type 0) (fits : T → ℕ → Type 0) (l : Limits) (s t : Sight T) (r : Result Locked Refusal) → Locks follows fits l.budget s t r → MakesCall l (λ x. Answer.Locked x) Call.TryLock s t r
    → MakesAtMost 6 s t
tries_few follows fits l s t (Ok a) locks made =
    let x = made.0 in leads_few (Begin.begin x l Call.TryLock).turn s.number 6 (Begin.begin x l Call.TryLock).seat made.1 (Ended (Answer.Locked a)) s.trail t.trail (try_opens x l x.point) (λ e. cc) made.4
tries_few follows fits l s t (Err Refusal.Busy) locks made = busy_few s.number s.trail t.trail locks.4.0 locks.4.1 locks.4.2
tries_few follows fits l s t (Err r) locks made = unchanged s t 6 locks.1

pub receives_few : {T : Type 0} (follows : ℕ → T → T → Type 0) (fits : T → ℕ → Type 0) (l : Limits) (s t : Sight T) (r : Result (Option How) Refusal) → Receives follows fits s t r → MakesCall l (λ x. Answer.Got x) Call.Receive s t r
    → MakesAtMost 3 s t
receives_few follows fits l s t (Ok a) receives made =
    let x = made.0 in leads_few (Begin.begin x l Call.Receive).turn s.number 3 (Begin.begin x l Call.Receive).seat made.1 (Ended (Answer.Got a)) s.trail t.trail (receive_opens x l x.point) (λ e. cc) made.4
receives_few follows fits l s t (Err Refusal.NotWaiting) receives made = unchanged s t 3 receives.1
receives_few follows fits l s t (Err r) receives made = absurd receives
