-- What a seat's part of a run records: how often the seat becomes the owner, how many steps it makes, which records it pushes,
-- and by which records it answers that it holds.
use Rattle.std.proofs.Common.{◌≡◌, ◌≢◌, ◌⊎◌, ℕ, zero, suc, Bool, true, false, Option, inl, inr, ◌+◌, ◌<◌, ◌≤◌, List, [], ◌∷◌, ◌++◌, length, filter, nat_eq, slice_index, refl, sym, ap, ◌∙◌, subst, ⊎_elim, append-nil, arith, if◌then◌else◌}
use Rattle.std.proofs.lemmas.Bool.{cases_Bool, cases_eq, cases_lt, eq-eqb, ne_eqb}
use Rattle.std.proofs.lemmas.Grind.{flat_map-append}
use Rattle.std.proofs.lemmas.List.Elements.{filter-append}
use Rattle.std.proofs.lemmas.List.Sums.{sum_by-append}
use Rattle.lfm_model.specs.Sums.{sum_to}
use Rattle.lfm_model.specs.declared.answers.How.{How}
use Rattle.lfm_model.specs.declared.answers.Asked.{Asked}
use Rattle.lfm_model.specs.declared.answers.Locked.{Locked}
use Rattle.lfm_protocol.specs.declared.answers.Answer.{Answer}
use Rattle.lfm_protocol.specs.declared.answers.Turn.{Turn}
use Rattle.lfm_protocol.specs.declared.answers.Turn.TheVariants.{Ended}
use Rattle.lfm_protocol.specs.declared.points.Point.{Point}
use Rattle.lfm_protocol.specs.declared.points.Point.TheVariants.{TryOwnerLoad, PushExchange, EnterOwnerStore}
use Rattle.lfm_protocol.specs.declared.seats.SeatState.{SeatState}
use Rattle.lfm_protocol.specs.After.{same_link}
use Rattle.lfm_protocol.specs.Core.{Core}
use Rattle.lfm_protocol.specs.Limits.{max_budget}
use Rattle.lfm_protocol.specs.Points.{kind, target, pushed_seat}
use Rattle.lfm_protocol.specs.Seats.{seat, is_seat}
use Rattle.lfm_protocol.specs.Step.{start, step}
use Rattle.lfm_words.specs.declared.links.Link.{Link}
use Rattle.lfm_words.specs.declared.pop_lists.Record.{Record}
use Rattle.lfm_words.specs.Popped.{oldest}
use Rattle.lfm_laws.specs.laws.Events.{answered_by, answered_got, pushed_at_point, pushed_by}
use Rattle.lfm_laws.specs.laws.Laws.{IsReached}
use Rattle.lfm_laws.specs.laws.Overtaking.{enters_at, entries_of_seat}
use Rattle.lfm_laws.specs.laws.Progress.{stepped_in, steps_of_run}
use Rattle.lfm_laws.specs.laws.Schedules.{Event, answer_record, answered_in, begins, makes, happens, is_call, run_of}
use Rattle.lfm_laws.specs.steady.Ghost.{Ghost}
use Rattle.lfm_laws.specs.steady.Steady.{Fits, Steady}
use Rattle.lfm_laws.specs.table.Words.{words, index_by, stepped_by, written_by}
use Rattle.lfm_laws.proofs.lawful.runs.KeptSteady.{reached_are_narrow}
use Rattle.lfm_laws.proofs.lawful.runs.LimitsKept.{budget-happens}
use Rattle.lfm_laws.proofs.lawful.runs.Reached.{absent_tested, run_keeps, steady_reached}
use Rattle.lfm_laws.proofs.steady.Room.{numbers_fit}
use Rattle.lfm_laws.proofs.steady.frames.Entries.{seat_or_absent}
use Rattle.lfm_laws.proofs.steady.frames.SameSeats.{seats-begin, seats-step}
use Rattle.lfm_laws.proofs.steady.frames.Seated.{seat_of_test}
use Rattle.lfm_laws.proofs.steady.frames.Sums.{sum_agrees, sum_update}
use Rattle.lfm_laws.proofs.table.Exact.{push_narrow}
use Rattle.lfm_laws.proofs.table.Made.{turn_of_step}
use Rattle.lfm_laws.proofs.table.Packing.{link_packed}
use Rattle.lfm_table.specs.declared.seat_view.Action.{Action}
use Rattle.lfm_table.specs.declared.seat_view.Action.TheVariants.{Begins, Makes, LoadsOwner}
use Rattle.lfm_table.specs.declared.seat_view.Seen.{Seen}
use Rattle.lfm_table.specs.Actions.{seen, stores, told_of, events_of, after_action, if_own, noted, noted_of, part_of}
use Rattle.lfm_mutex.specs.calls.Runs.{how_held}
use Rattle.lfm_mutex.proofs.runs.StepResults.{how_at, how_step}
use Rattle.lfm_mutex.specs.TableRuns.{answer_noted, answers_noted, entries_told, owner_loads, own_push, own_pushes, push_noted, pushes_noted, steps_told}

-- What is noted for one seat

plus_none : (n : ℕ) → n ≡ 0 + n
plus_none n = omega arith

same_if : {A : Type 0} (b : Bool) (x : A) → x ≡ (if b then x else x)
same_if true x = refl
same_if false x = refl

-- a fact about whether seat s is seat t
by_seat : (P : Bool → Type 0) (s t : ℕ) → (s ≡ t → P true) → P false → P (nat_eq s t)
by_seat P s t own other = elim (cases_eq s t) [ inl e ↦ subst P (sym (eq-eqb s t e)) (own e) | inr n ↦ subst P (sym (ne_eqb s t n)) other ]

-- Entries

own_entry : (c : Core) (s t : ℕ) → (if nat_eq s t then enters_at (seat c.seats t).point else 0) ≡ entries_told (if_own s t (noted c s))
own_entry c s t = by_seat (λ b. (if b then enters_at (seat c.seats t).point else 0) ≡ entries_told (if b then noted c s ∷ [] else [])) s t
    (λ e. ap (λ (m : ℕ). enters_at (seat c.seats m).point) (sym e) ∙ plus_none (enters_at (seat c.seats s).point)) refl

owner_load_entry : (s t n : ℕ) → entries_told (if_own s t (seen TryOwnerLoad n)) ≡ 0
owner_load_entry s t n = by_seat (λ b. entries_told (if b then seen TryOwnerLoad n ∷ [] else []) ≡ 0) s t (λ e. refl) refl

first_entry : (c : Core) (t : ℕ) (d : Action) (later : List Action)
    → entries_of_seat c t (events_of (d ∷ later)) ≡ entries_told (noted_of c t d) + entries_of_seat (after_action c d) t (events_of later)
first_entry c t (Begins s call) later = refl
first_entry c t (Makes s) later = ap (λ (n : ℕ). n + entries_of_seat (happens c (makes s)).core t (events_of later)) (own_entry c s t)
first_entry c t (LoadsOwner s) later = let z = owner_load_entry s t c.owner in omega (arith, z)

-- By induction on the actions: a seat becomes the owner as often as its part records.
pub entries_of_part : (c : Core) (t : ℕ) (actions : List Action) → entries_of_seat c t (events_of actions) ≡ entries_told (part_of c t actions)
entries_of_part c t [] = refl
entries_of_part c t (d ∷ later) =
    first_entry c t d later
    ∙ (ap (λ (n : ℕ). entries_told (noted_of c t d) + n) (entries_of_part (after_action c d) t later)
    ∙ sym (sum_by-append (λ (x : Seen). enters_at x.point) (noted_of c t d) (part_of (after_action c d) t later)))

-- Steps

abbrev step_unit : Point → ℕ
step_unit q = if is_call q then 1 else 0

none_summed : (n : ℕ) → sum_to (λ (t : ℕ). 0) n ≡ 0
none_summed zero = refl
none_summed (suc n) = let below = none_summed n in omega (arith, below)

sum_adds : (n : ℕ) (f g : ℕ → ℕ) → sum_to (λ (t : ℕ). f t + g t) n ≡ sum_to f n + sum_to g n
sum_adds zero f g = refl
sum_adds (suc n) f g = let below = sum_adds n f g in omega (arith, below)

-- a sum in which only the term of seat s is not 0
sum_of_one : (n s k : ℕ) → 0 < s → s ≤ n → sum_to (λ (t : ℕ). if nat_eq s t then k else 0) n ≡ k
sum_of_one n s k above within =
    let one : ℕ → ℕ = λ (t : ℕ). if nat_eq s t then k else 0 in
    let own : one s ≡ k = rw (eq-eqb s s refl) refl in
    let all = sum_update n s (λ (t : ℕ). 0) one above within (λ (j : ℕ) (other : j ≢ s). rw (ne_eqb s j (λ e. other (sym e))) refl) in
    let none = none_summed n in
    omega (arith, own, all, none)

own_steps : (s t : ℕ) (x : Seen) → steps_told (if_own s t x) ≡ (if nat_eq s t then step_unit x.point else 0)
own_steps s t x = by_seat (λ b. steps_told (if b then x ∷ [] else []) ≡ (if b then step_unit x.point else 0)) s t (λ e. sym (plus_none (step_unit x.point))) refl

summed_own : (n s : ℕ) (x : Seen) → 0 < s → s ≤ n → sum_to (λ (t : ℕ). steps_told (if_own s t x)) n ≡ step_unit x.point
summed_own n s x above within =
    sum_agrees n (λ (t : ℕ). if nat_eq s t then step_unit x.point else 0) (λ (t : ℕ). steps_told (if_own s t x)) (λ (t : ℕ). own_steps s t x)
    ∙ sum_of_one n s (step_unit x.point) above within

-- a number that is not a seat's adds no step of a call
summed_absent : (n s : ℕ) (x : Seen) → step_unit x.point ≡ 0 → sum_to (λ (t : ℕ). steps_told (if_own s t x)) n ≡ step_unit x.point
summed_absent n s x none =
    sum_agrees n (λ (t : ℕ). 0) (λ (t : ℕ). steps_told (if_own s t x))
    (λ (t : ℕ). own_steps s t x ∙ (ap (λ (k : ℕ). if nat_eq s t then k else 0) none ∙ sym (same_if (nat_eq s t) 0)))
    ∙ (none_summed n ∙ sym none)

pub rest_is_nil : {A : Type 0} (xs ys : List A) → xs ++ ys ≡ [] → ys ≡ []
rest_is_nil [] ys e = e
rest_is_nil (x ∷ xs) ys e = absurd (let n = ap length e in omega (arith, n))

noted_by_seat : (s : ℕ) (x : Seen) (later : List Seen) → if_own s s x ++ later ≢ []
noted_by_seat s x later = rw (eq-eqb s s refl) (λ e. let n = ap length e in omega (arith, n))

seats_stay : (c : Core) (d : Action) → length (after_action c d).seats ≡ length c.seats
seats_stay c (Begins s call) = seats-begin c s call
seats_stay c (Makes s) = seats-step c s
seats_stay c (LoadsOwner s) = refl

is_place : (n s : ℕ) → ((0 < s) × (s ≤ n)) ⊎ ((s ≡ 0) ⊎ (n < s))
is_place n zero = inr (inl refl)
is_place n (suc m) = ⊎_elim (λ (far : n < suc m). inr (inr far)) (λ (within : suc m ≤ n). inl (omega arith, within)) (cases_lt n (suc m))

-- only the seats 1 to n have a part in these actions
abbrev OnlySeats : ℕ → Core → List Action → Type 0
OnlySeats n c actions = (t : ℕ) → (t ≡ 0) ⊎ (n < t) → part_of c t actions ≡ []

step_summed : (c : Core) (s : ℕ) → sum_to (λ (t : ℕ). steps_told (if_own s t (noted c s))) (length c.seats) ≡ stepped_in c (makes s)
step_summed c s =
    elim (seat_or_absent c.seats s) [
      | inl is ↦ summed_own (length c.seats) s (noted c s) is.above is.within
      | inr none ↦ summed_absent (length c.seats) s (noted c s) (ap (λ (x : SeatState). step_unit x.point) none)
    ]

-- how many steps of calls and loads for `owner` this action is
abbrev made_by : Core → Action → ℕ
made_by c (Begins s call) = stepped_in c (begins s call)
made_by c (Makes s) = stepped_in c (makes s)
made_by c (LoadsOwner s) = 1

action_summed : (n : ℕ) (c : Core) (d : Action) (later : List Action) → length c.seats ≡ n → OnlySeats n c (d ∷ later) → sum_to (λ (t : ℕ). steps_told (noted_of c t d)) n ≡ made_by c d
action_summed n c (Begins s call) later many only = none_summed n
action_summed n c (Makes s) later many only = subst (λ (m : ℕ). sum_to (λ (t : ℕ). steps_told (if_own s t (noted c s))) m ≡ stepped_in c (makes s)) many (step_summed c s)
action_summed n c (LoadsOwner s) later many only = ⊎_elim
    (λ (is : (0 < s) × (s ≤ n)). summed_own n s (seen TryOwnerLoad c.owner) is.0 is.1)
    (λ (out : (s ≡ 0) ⊎ (n < s)). absurd (noted_by_seat s (seen TryOwnerLoad c.owner) (part_of c s later) (only s out)))
    (is_place n s)

made_first : (c : Core) (d : Action) (later : List Action)
    → made_by c d + (steps_of_run (after_action c d) (events_of later) + owner_loads later) ≡ steps_of_run c (events_of (d ∷ later)) + owner_loads (d ∷ later)
made_first c (Begins s call) later = omega arith
made_first c (Makes s) later = omega arith
made_first c (LoadsOwner s) later = omega arith

-- By induction on the actions: the parts of all seats record the steps of the run, and the loads for `owner`.
pub steps_of_parts : (n : ℕ) (c : Core) (actions : List Action) → length c.seats ≡ n → OnlySeats n c actions
    → sum_to (λ (t : ℕ). steps_told (part_of c t actions)) n ≡ steps_of_run c (events_of actions) + owner_loads actions
steps_of_parts n c [] many only = none_summed n
steps_of_parts n c (d ∷ later) many only =
    let next = after_action c d in
    let rest = steps_of_parts n next later (seats_stay c d ∙ many) (λ t out. rest_is_nil (noted_of c t d) (part_of next t later) (only t out)) in
    let here = action_summed n c d later many only in
    let apart =
    sum_agrees n (λ (t : ℕ). steps_told (noted_of c t d) + steps_told (part_of next t later)) (λ (t : ℕ). steps_told (part_of c t (d ∷ later)))
    (λ (t : ℕ). sum_by-append (λ (x : Seen). step_unit x.point) (noted_of c t d) (part_of next t later))
    ∙ sum_adds n (λ (t : ℕ). steps_told (noted_of c t d)) (λ (t : ℕ). steps_told (part_of next t later)) in
    apart ∙ ((λ i. here i + rest i) ∙ made_first c d later)

-- Pushes

pushes_join : (t : ℕ) (xs ys : List Seen) → pushes_noted t (xs ++ ys) ≡ pushes_noted t xs ++ pushes_noted t ys
pushes_join t xs ys = flat_map-append (λ (x : Seen). push_noted t x.point x.found) xs ys

-- the number that a step at this point notes
abbrev noted_at : Core → ℕ → SeatState → ℕ → Point → ℕ
noted_at c s x seats q =
    told_of (stores (kind q)) (written_by x s (slice_index (words c) (index_by seats (target q s) (kind q))) (kind q)) (slice_index (words c) (index_by seats (target q s) (kind q)))

push_told : (c : Core) (g : Ghost) (s : ℕ) (x : SeatState) (seats : ℕ) → Fits c g → (q : Point) → pushed_at_point c s q ≡ push_noted s q (noted_at c s x seats q)
push_told c g s x seats fits (PushExchange pusher old) =
    ap (λ (l : Link). if same_link l old then record { seat = pushed_seat pusher s; stamp = old.stamp + 1 } ∷ [] else []) (sym (link_packed c.push (push_narrow c g fits)))
push_told c g s x seats fits _ = refl

own_told : (c : Core) (g : Ghost) (s t : ℕ) → Fits c g → (if nat_eq s t then pushed_by c s else []) ≡ pushes_noted t (if_own s t (noted c s))
own_told c g s t fits = by_seat (λ b. (if b then pushed_by c s else []) ≡ pushes_noted t (if b then noted c s ∷ [] else [])) s t
    (λ e. push_told c g s (seat c.seats s) _ fits (seat c.seats s).point
    ∙ (ap (λ (m : ℕ). push_noted m (seat c.seats s).point (noted c s).found) e ∙ sym (append-nil (push_noted t (seat c.seats s).point (noted c s).found)))) refl

owner_load_pushes : (s t n : ℕ) → [] ≡ pushes_noted t (if_own s t (seen TryOwnerLoad n))
owner_load_pushes s t n = by_seat (λ b. [] ≡ pushes_noted t (if b then seen TryOwnerLoad n ∷ [] else [])) s t (λ e. refl) refl

action_told : (c : Core) (g : Ghost) (t : ℕ) (d : Action) → Fits c g → own_push c t d ≡ pushes_noted t (noted_of c t d)
action_told c g t (Begins s call) fits = refl
action_told c g t (Makes s) fits = own_told c g s t fits
action_told c g t (LoadsOwner s) fits = owner_load_pushes s t c.owner

action_keeps : (c : Core) (d : Action) → Steady c → Steady (after_action c d)
action_keeps c (Begins s call) steady = run_keeps c (begins s call ∷ []) steady
action_keeps c (Makes s) steady = run_keeps c (makes s ∷ []) steady
action_keeps c (LoadsOwner s) steady = steady

-- By induction on the actions: the records that a seat pushes are those that its part records.
pub pushes_told : (c : Core) (t : ℕ) (actions : List Action) → Steady c → own_pushes c t actions ≡ pushes_noted t (part_of c t actions)
pushes_told c t [] steady = refl
pushes_told c t (d ∷ later) steady =
    (λ i. action_told c steady.ghost_state t d steady.fits i ++ pushes_told (after_action c d) t later (action_keeps c d steady) i)
    ∙ sym (pushes_join t (noted_of c t d) (part_of (after_action c d) t later))

-- Answers

-- which record a turn answers depends only on how the seat has acquired the mutex
answer_by_how : (s : ℕ) (turn : Turn) → answered_by s turn ≡ answered_got s (how_held turn)
answer_by_how s (Ended (Answer.Asked (Asked.Held how))) = refl
answer_by_how s (Ended (Answer.Locked (Locked.Held how))) = refl
answer_by_how s _ = refl

noted_by_how : (s : ℕ) (q : Point) → answered_got s (how_at q) ≡ answer_noted s q
noted_by_how s (EnterOwnerStore entrant How.Free) = refl
noted_by_how s _ = refl

answer_at : (x : SeatState) (s n : ℕ) (o : Option Record) → answered_by s (stepped_by x s n o).turn ≡ answer_noted s x.point
answer_at x s n o = answer_by_how s (stepped_by x s n o).turn ∙ (ap (answered_got s) (how_step x s n o) ∙ noted_by_how s x.point)

run_join : (c : Core) (xs ys : List Event) → run_of c (xs ++ ys) ≡ run_of (run_of c xs) ys
run_join c [] ys = refl
run_join c (e ∷ xs) ys = run_join (happens c e).core xs ys

-- a state that a schedule reaches under a budget within the limits
abbrev pub InLimits : Core → Type 0
InLimits c = IsReached c × (c.budget ≤ max_budget)

reached_next : (c : Core) (e : Event) → InLimits c → InLimits (happens c e).core
reached_next c e is =
    let before = is.0 in
    let same = budget-happens c e in
    let after : IsReached (happens c e).core = record {
      limits = before.limits;
      events = before.events ++ e ∷ [];
      few = before.few;
      here = ap (λ (b : Core). (happens b e).core) before.here ∙ sym (run_join (start before.limits) before.events (e ∷ []));
    } in
    (after, omega (arith, same, is.1))

step_answer : (c : Core) (s : ℕ) → InLimits c → answered_by s (step c s).turn ≡ answer_noted s (seat c.seats s).point
step_answer c s is = elim (cases_Bool (is_seat c.seats s)) [
  | inl here ↦
      let steady = steady_reached c is.0 in
      let numbers = numbers_fit c steady.ghost_state steady.fits is.1 in
      let x = seat c.seats s in
      rw here (ap (answered_by s) (turn_of_step c steady.ghost_state s (seat_of_test c.seats s here) steady.fits numbers (reached_are_narrow c is.0 is.1)) ∙ answer_at x s _ (oldest c.popped))
  | inr none ↦ rw (none, absent_tested c.seats s none) refl
]

-- whether this is a record of seat t
abbrev of_seat : ℕ → Record → Bool
of_seat t r = nat_eq r.seat t

answers_of_seat : (s t : ℕ) (q : Point) → filter (of_seat t) (answer_noted s q) ≡ (if nat_eq s t then answer_noted s q else [])
answers_of_seat s t (EnterOwnerStore entrant (How.Queued stamp)) = refl
answers_of_seat s t (EnterOwnerStore entrant How.Free) = same_if (nat_eq s t) []
answers_of_seat s t _ = same_if (nat_eq s t) []

answer_of_step : (s t : ℕ) (x : Seen) → (if nat_eq s t then answer_noted s x.point else []) ≡ answers_noted t (if_own s t x)
answer_of_step s t x = by_seat (λ b. (if b then answer_noted s x.point else []) ≡ answers_noted t (if b then x ∷ [] else [])) s t
    (λ e. ap (λ (m : ℕ). answer_noted m x.point) e ∙ sym (append-nil (answer_noted t x.point))) refl

made_answers : (c : Core) (s t : ℕ) → InLimits c → filter (of_seat t) (answered_in c (makes s)) ≡ answers_noted t (noted_of c t (Makes s))
made_answers c s t is = ap (filter (of_seat t)) (step_answer c s is) ∙ (answers_of_seat s t (seat c.seats s).point ∙ answer_of_step s t (noted c s))

owner_load_answers : (s t n : ℕ) → [] ≡ answers_noted t (if_own s t (seen TryOwnerLoad n))
owner_load_answers s t n = by_seat (λ b. [] ≡ answers_noted t (if b then seen TryOwnerLoad n ∷ [] else [])) s t (λ e. refl) refl

answers_join : (t : ℕ) (xs ys : List Seen) → answers_noted t (xs ++ ys) ≡ answers_noted t xs ++ answers_noted t ys
answers_join t xs ys = flat_map-append (λ (x : Seen). answer_noted t x.point) xs ys

-- By induction on the actions: the answers Held(Queued) of a seat are those that its part records.
pub answers_told : (c : Core) (t : ℕ) (actions : List Action) → InLimits c → filter (of_seat t) (answer_record c (events_of actions)) ≡ answers_noted t (part_of c t actions)
answers_told c t [] is = refl
answers_told c t (Begins s call ∷ later) is = answers_told (happens c (begins s call)).core t later (reached_next c (begins s call) is)
answers_told c t (Makes s ∷ later) is =
    filter-append (of_seat t) (answered_in c (makes s)) (answer_record (happens c (makes s)).core (events_of later))
    ∙ ((λ i. made_answers c s t is i ++ answers_told (happens c (makes s)).core t later (reached_next c (makes s) is) i)
    ∙ sym (answers_join t (noted_of c t (Makes s)) (part_of (happens c (makes s)).core t later)))
answers_told c t (LoadsOwner s ∷ later) is =
    answers_told c t later is
    ∙ (ap (λ (l : List Record). l ++ answers_noted t (part_of c t later)) (owner_load_answers s t c.owner)
    ∙ sym (answers_join t (noted_of c t (LoadsOwner s)) (part_of c t later)))
