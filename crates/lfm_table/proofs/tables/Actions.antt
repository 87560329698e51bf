-- The run of a table continues with the starts of calls and a step of one seat, or with a load of the owner word. The part of
-- that seat grows by what it records; no other part changes. Each seat still knows the actions up to its last step.
use Rattle.std.proofs.Common.{◌≡◌, ◌≢◌, ◌⊎◌, ℕ, zero, suc, true, false, nat_eq, replicate, ◌+◌, ◌<◌, ◌≤◌, List, [], ◌∷◌, ◌++◌, length, set, sym, refl, ap, ◌∙◌, subst, ⊎_elim, inl, inr, append_assoc, append-nil, length-set, arith}
use Rattle.std.proofs.lemmas.Bool.{cases_Bool, eq-eqb, ne_eqb}
use Rattle.std.proofs.lemmas.List.Elements.{filter-append}
use Rattle.std.proofs.lemmas.List.{append_cancel_left, set-get_or}
use mathlib.Core.Option.{some, some-ne-none}
use lib.ListN.{get_elem?}
use Rattle.atomic_table.proofs.Lists.{at_set}
use Rattle.lfm_protocol.specs.declared.answers.Call.{Call}
use Rattle.lfm_protocol.specs.declared.limits.Limits.{Limits}
use Rattle.lfm_protocol.specs.declared.points.Point.TheVariants.{TryOwnerLoad}
use Rattle.lfm_protocol.specs.declared.seats.SeatState.{SeatState}
use Rattle.lfm_protocol.specs.Begin as Begin
use Rattle.lfm_protocol.specs.Core.{Core, limits, put}
use Rattle.lfm_protocol.specs.Limits.{max_budget}
use Rattle.lfm_protocol.specs.Seats.{seat, entry, with_entry, absent, IsSeat}
use Rattle.lfm_protocol.specs.Step.{begin, step, made, start}
use Rattle.lfm_laws.specs.laws.Schedules.{Event, begins, makes, happens, reached, run_of}
use Rattle.lfm_laws.specs.table.Settles.{begun}
use Rattle.lfm_laws.proofs.lawful.runs.LimitsKept.{limits_stay}
use Rattle.lfm_laws.proofs.steady.Start.{small_budget}
use Rattle.lfm_laws.proofs.steady.frames.Entries.{seat-with_same, length-with_entry}
use Rattle.lfm_laws.proofs.table.Settled.{test_of_seat, with_entry-twice, is_seat-with, limits-put}
use Rattle.lfm_laws.proofs.table.TableSteps.{found_at}
use Rattle.lfm_table.specs.declared.seat_view.Action.{Action}
use Rattle.lfm_table.specs.declared.seat_view.Action.TheVariants.{Begins, Makes, LoadsOwner}
use Rattle.lfm_table.specs.declared.seat_view.Seen.{Seen}
use Rattle.lfm_table.specs.declared.seat_view.View.{View}
use Rattle.lfm_table.specs.Actions.{seen, told, noted_as, noted, actor, own_of, IsNotedBy, LastIsOwn, EndsWithOwn, events_of, after_action, if_own, noted_of, part_of, begins_of, begins_and_step, KnowsRun, HasRun, HasRunWithin, next_part, RunGoesOn, RunGoesOnBy}
use Rattle.lfm_table.specs.Settled.{calls_to}

-- Concatenation

run_join : (c : Core) (xs ys : List Event) → run_of c (xs ++ ys) ≡ run_of (run_of c xs) ys
run_join c [] ys = refl
run_join c (e ∷ xs) ys = run_join (happens c e).core xs ys

events_join : (xs ys : List Action) → events_of (xs ++ ys) ≡ events_of xs ++ events_of ys
events_join [] ys = refl
events_join (Begins s call ∷ xs) ys = ap (λ (l : List Event). begins s call ∷ l) (events_join xs ys)
events_join (Makes s ∷ xs) ys = ap (λ (l : List Event). makes s ∷ l) (events_join xs ys)
events_join (LoadsOwner s ∷ xs) ys = events_join xs ys

-- the state after the concatenation of two lists of actions
pub led_join : (c : Core) (xs ys : List Action) → run_of c (events_of (xs ++ ys)) ≡ run_of (run_of c (events_of xs)) (events_of ys)
led_join c xs ys = ap (run_of c) (events_join xs ys) ∙ run_join c (events_of xs) (events_of ys)

led_first : (c : Core) (d : Action) (later : List Action) → run_of c (events_of (d ∷ later)) ≡ run_of (after_action c d) (events_of later)
led_first c (Begins s call) later = refl
led_first c (Makes s) later = refl
led_first c (LoadsOwner s) later = refl

-- a seat's part of the concatenation of two lists of actions
pub part_join : (c : Core) (t : ℕ) (xs ys : List Action) → part_of c t (xs ++ ys) ≡ part_of c t xs ++ part_of (run_of c (events_of xs)) t ys
part_join c t [] ys = refl
part_join c t (d ∷ xs) ys =
    ap (λ (l : List Seen). noted_of c t d ++ l) (part_join (after_action c d) t xs ys)
    ∙ (sym (append_assoc (noted_of c t d) (part_of (after_action c d) t xs) (part_of (run_of (after_action c d) (events_of xs)) t ys))
    ∙ ap (λ (b : Core). (noted_of c t d ++ part_of (after_action c d) t xs) ++ part_of b t ys) (sym (led_first c d xs)))

-- Starts of calls

-- replacing an entry by itself changes nothing
with_entry-own : {A : Type 0} (d : A) (xs : List A) (s : ℕ) → with_entry xs s (entry d xs s) ≡ xs
unfolding entry with_entry
with_entry-own d xs zero = refl
with_entry-own d xs (suc n) = set-get_or xs n d

put_own : (c : Core) (s : ℕ) → put c s (seat c.seats s) ≡ c
put_own c s = ap (λ (seats : List SeatState). record c { seats = seats }) (with_entry-own absent c.seats s)

begin_put : (c : Core) (s : ℕ) (x : SeatState) (call : Call) → IsSeat c.seats s → (begin (put c s x) s call).core ≡ put c s (Begin.begin x (limits c) call).seat
begin_put c s x call is =
    rw (test_of_seat (with_entry c.seats s x) s (is_seat-with c.seats s s x is))
    ((λ i. put (put c s x) s (Begin.begin (seat-with_same c.seats s x is i) (limits-put c s x i) call).seat)
    ∙ ap (λ (seats : List SeatState). record c { seats = seats }) (with_entry-twice c.seats s x (Begin.begin x (limits c) call).seat))

begun_run : (c : Core) (s : ℕ) (calls : List Call) → IsSeat c.seats s → run_of c (events_of (begins_of s calls)) ≡ put c s (begun (seat c.seats s) (limits c) calls)
begun_run c s [] is = sym (put_own c s)
begun_run c s (call ∷ calls) is =
    led_join c (begins_of s calls) (Begins s call ∷ [])
    ∙ (ap (λ (d : Core). (begin d s call).core) (begun_run c s calls is) ∙ begin_put c s (begun (seat c.seats s) (limits c) calls) call is)

begun_part : (c : Core) (t s : ℕ) (calls : List Call) → part_of c t (begins_of s calls) ≡ []
begun_part c t s [] = refl
begun_part c t s (call ∷ calls) = part_join c t (begins_of s calls) (Begins s call ∷ []) ∙ ap (λ (l : List Seen). l ++ []) (begun_part c t s calls)

-- The step

step_made : (c : Core) (s : ℕ) → IsSeat c.seats s → (step c s).core ≡ (made c s).core
step_made c s is = rw (test_of_seat c.seats s is) refl

module _ (c : Core) (s : ℕ) (x p : SeatState) (is : IsSeat c.seats s) (here : seat c.seats s ≡ x) (leads : p ≡ begun x (limits c) (calls_to x p)) where
  begun_here : run_of c (events_of (begins_of s (calls_to x p))) ≡ put c s p
  begun_here = begun_run c s (calls_to x p) is ∙ ap (put c s) (ap (λ (y : SeatState). begun y (limits c) (calls_to x p)) here ∙ sym leads)

  -- The starts of calls and the step lead to the same state as the step of the core.
  pub step_run : run_of c (events_of (begins_and_step s x p)) ≡ (made (put c s p) s).core
  step_run =
      led_join c (begins_of s (calls_to x p)) (Makes s ∷ [])
      ∙ (ap (λ (d : Core). (step d s).core) begun_here ∙ step_made (put c s p) s (is_seat-with c.seats s s p is))

  noted_put : noted (put c s p) s ≡ seen p.point (told p s (found_at c s p))
  noted_put = λ i. noted_as c s (seat-with_same c.seats s p is i) (length-with_entry c.seats s p i)

  -- The part of a seat in them is what the seat records of the step.
  pub step_part : (t : ℕ) → part_of c t (begins_and_step s x p) ≡ if_own s t (seen p.point (told p s (found_at c s p)))
  step_part t =
      part_join c t (begins_of s (calls_to x p)) (Makes s ∷ [])
      ∙ ((λ i. begun_part c t s (calls_to x p) i ++ part_of (begun_here i) t (Makes s ∷ []))
      ∙ (append-nil (if_own s t (noted (put c s p) s)) ∙ ap (if_own s t) noted_put))

pub owner_load_part : (c : Core) (s t : ℕ) → part_of c t (LoadsOwner s ∷ []) ≡ if_own s t (seen TryOwnerLoad c.owner)
owner_load_part c s t = append-nil (if_own s t (seen TryOwnerLoad c.owner))

-- Who acts

own_join : (t : ℕ) (xs ys : List Action) → own_of t (xs ++ ys) ≡ own_of t xs ++ own_of t ys
own_join t xs ys = filter-append (λ (a : Action). nat_eq (actor a) t) xs ys

other_notes : (c : Core) (t : ℕ) (a : Action) → nat_eq (actor a) t ≡ false → noted_of c t a ≡ []
other_notes c t (Begins s call) other = refl
other_notes c t (Makes s) other = rw other refl
other_notes c t (LoadsOwner s) other = rw other refl

-- a seat that has made none of these actions has no part in them
pub no_part : (c : Core) (t : ℕ) (actions : List Action) → own_of t actions ≡ [] → part_of c t actions ≡ []
no_part c t [] none = refl
no_part c t (a ∷ later) none = ⊎_elim
    (λ (own : nat_eq (actor a) t ≡ true). absurd (let e : a ∷ own_of t later ≡ [] = rw own at none in cc))
    (λ (other : nat_eq (actor a) t ≡ false). let e : own_of t later ≡ [] = rw other at none in (λ i. other_notes c t a other i ++ no_part (after_action c a) t later e i))
    (cases_Bool (nat_eq (actor a) t))

begin_by : (s t : ℕ) (call : Call) → s ≢ t → own_of t (Begins s call ∷ []) ≡ []
begin_by s t call other = rw (ne_eqb s t other) refl

made_by : (s t : ℕ) → s ≢ t → own_of t (Makes s ∷ []) ≡ []
made_by s t other = rw (ne_eqb s t other) refl

begun_by : (s t : ℕ) (calls : List Call) → s ≢ t → own_of t (begins_of s calls) ≡ []
begun_by s t [] other = refl
begun_by s t (call ∷ calls) other = own_join t (begins_of s calls) (Begins s call ∷ []) ∙ (λ i. begun_by s t calls other i ++ begin_by s t call other i)

-- the starts of calls and the step of a seat are actions of no other seat
pub step_by : (s t : ℕ) (x p : SeatState) → s ≢ t → own_of t (begins_and_step s x p) ≡ []
step_by s t x p other = own_join t (begins_of s (calls_to x p)) (Makes s ∷ []) ∙ (λ i. begun_by s t (calls_to x p) other i ++ made_by s t other i)

pub load_by : (s t : ℕ) → s ≢ t → own_of t (LoadsOwner s ∷ []) ≡ []
load_by s t other = rw (ne_eqb s t other) refl

-- The last action

-- the starts of calls and the step of a seat end with the step
pub step_last : (s t : ℕ) (x p : SeatState) → s ≡ t → LastIsOwn t (begins_and_step s x p)
step_last s t x p own = (begins_of s (calls_to x p), Makes s, refl, own)

pub load_last : (s t : ℕ) → s ≡ t → LastIsOwn t (LoadsOwner s ∷ [])
load_last s t own = ([], LoadsOwner s, refl, own)

-- the last action is the same with any actions before it
last_join : (t : ℕ) (xs ys : List Action) → LastIsOwn t ys → LastIsOwn t (xs ++ ys)
last_join t xs ys u = (xs ++ u.0, u.1, ap (λ (d : List Action). xs ++ d) u.2 ∙ sym (append_assoc xs u.0 (u.1 ∷ [])), u.3)

ends_join : (t : ℕ) (xs ys : List Action) → EndsWithOwn t xs → EndsWithOwn t ys → EndsWithOwn t (xs ++ ys)
ends_join t xs ys first second = ⊎_elim
    (λ (none : ys ≡ []). subst (λ (d : List Action). EndsWithOwn t d) (sym (ap (λ (d : List Action). xs ++ d) none ∙ append-nil xs)) first)
    (λ (u : LastIsOwn t ys). inr (last_join t xs ys u))
    second

last_tail : (t : ℕ) (x : Action) (xs before : List Action) (last : Action) → x ∷ xs ≡ before ++ last ∷ [] → IsNotedBy t last → EndsWithOwn t xs
last_tail t x xs [] last e own = let h : x ∷ xs ≡ last ∷ [] = e in let none : xs ≡ [] = cc in inl none
last_tail t x xs (b ∷ bs) last e own = let h : x ∷ xs ≡ b ∷ (bs ++ last ∷ []) = e in let same : xs ≡ bs ++ last ∷ [] = cc in inr (bs, last, same, own)

ends_tail : (t : ℕ) (x : Action) (xs : List Action) → EndsWithOwn t (x ∷ xs) → EndsWithOwn t xs
ends_tail t x xs ends = ⊎_elim (λ (none : x ∷ xs ≡ []). absurd (let e = none in cc)) (λ (u : LastIsOwn t (x ∷ xs)). last_tail t x xs u.0 u.1 u.2 u.3) ends

not_nil : {A : Type 0} (xs : List A) (x : A) → xs ++ x ∷ [] ≡ [] → ⊥
not_nil [] x e = cc
not_nil (y ∷ ys) x e = cc

noted_by_actor : (t : ℕ) (a : Action) → IsNotedBy t a → nat_eq (actor a) t ≡ true
noted_by_actor t (Begins s call) own = absurd own
noted_by_actor t (Makes s) own = eq-eqb s t own
noted_by_actor t (LoadsOwner s) own = eq-eqb s t own

own_last : (t : ℕ) (before : List Action) (last : Action) → IsNotedBy t last → own_of t (before ++ last ∷ []) ≡ own_of t before ++ last ∷ []
own_last t before last own = own_join t before (last ∷ []) ∙ ap (λ (l : List Action). own_of t before ++ l) (rw (noted_by_actor t last own) refl)

-- If the last action is the seat's or there is none, and the seat has made none of the actions, there is none.
none_own : (t : ℕ) (actions : List Action) → EndsWithOwn t actions → own_of t actions ≡ [] → actions ≡ []
none_own t actions ends none = ⊎_elim
    (λ (empty : actions ≡ []). empty)
    (λ (u : LastIsOwn t actions). absurd (not_nil (own_of t u.0) u.1 (sym (own_last t u.0 u.1 u.3) ∙ (ap (own_of t) (sym u.2) ∙ none))))
    ends

notes_own : (c : Core) (t : ℕ) (a : Action) → IsNotedBy t a → (x : Seen) × (noted_of c t a ≡ x ∷ [])
notes_own c t (Begins s call) own = absurd own
notes_own c t (Makes s) own = (noted c s, rw (eq-eqb s t own) refl)
notes_own c t (LoadsOwner s) own = (seen TryOwnerLoad c.owner, rw (eq-eqb s t own) refl)

-- the same if the seat records none of them
none_noted : (c : Core) (t : ℕ) (actions : List Action) → EndsWithOwn t actions → part_of c t actions ≡ [] → actions ≡ []
none_noted c t actions ends none = ⊎_elim
    (λ (empty : actions ≡ []). empty)
    (λ (u : LastIsOwn t actions).
    let d = run_of c (events_of u.0) in
    let x = notes_own d t u.1 u.3 in
    let noted : part_of c t (u.0 ++ u.1 ∷ []) ≡ part_of c t u.0 ++ x.0 ∷ [] = part_join c t u.0 (u.1 ∷ []) ∙ ap (λ (l : List Seen). part_of c t u.0 ++ l) (append-nil (noted_of d t u.1) ∙ x.1) in
    absurd (not_nil (part_of c t u.0) x.0 (sym noted ∙ (ap (part_of c t) (sym u.2) ∙ none))))
    ends

-- if the seat has made none of all actions, it has made none of the early ones
none_early : (t : ℕ) (early later : List Action) → own_of t later ≡ [] → own_of t (early ++ later) ≡ [] → own_of t early ≡ []
none_early t early later none all = sym (append-nil (own_of t early)) ∙ (ap (λ (l : List Action). own_of t early ++ l) (sym none) ∙ (sym (own_join t early later) ∙ all))

-- What a seat knows is determined: a run has only one early part that ends with an action of the seat and is followed by
-- actions of others alone.
pub known_once : (t : ℕ) (xs ys later others : List Action) → EndsWithOwn t xs → EndsWithOwn t ys → own_of t later ≡ [] → own_of t others ≡ [] → xs ++ later ≡ ys ++ others → xs ≡ ys
known_once t [] ys later others ends ends' none none' e = sym (none_own t ys ends' (none_early t ys others none' (ap (own_of t) (sym e) ∙ none)))
known_once t (x ∷ xs) [] later others ends ends' none none' e = none_own t (x ∷ xs) ends (none_early t (x ∷ xs) later none (ap (own_of t) e ∙ none'))
known_once t (x ∷ xs) (y ∷ ys) later others ends ends' none none' e =
    let h : x ∷ (xs ++ later) ≡ y ∷ (ys ++ others) = e in
    let first : x ≡ y = cc in
    let rest : xs ++ later ≡ ys ++ others = cc in
    (λ i. first i ∷ known_once t xs ys later others (ends_tail t x xs ends) (ends_tail t y ys ends') none none' rest i)

-- The run of a table

own : (s : ℕ) (x : Seen) → if_own s s x ≡ x ∷ []
own s x = rw (eq-eqb s s refl) refl

not_own : (s t : ℕ) (x : Seen) → s ≢ t → if_own s t x ≡ []
not_own s t x other = rw (ne_eqb s t other) refl

at_place : {A : Type 0} (l : List A) (i : ℕ) (a : A) → get_elem? l i ≡ some a → i < length l
at_place [] i a e = absurd (some-ne-none a (sym e))
at_place (x ∷ xs) zero a e = omega arith
at_place (x ∷ xs) (suc i) a e = let h = at_place xs i a e in omega arith

-- a seat that has made no step is as at the start
pub starts_absent : (n s : ℕ) → seat (replicate n absent) s ≡ absent
unfolding entry
starts_absent n zero = refl
starts_absent zero (suc s) = refl
starts_absent (suc n) (suc zero) = refl
starts_absent (suc n) (suc (suc s)) = starts_absent n (suc s)

-- a seat that has made no action knows nothing of the run
pub knows_none : (l : Limits) (actions : List Action) (t : ℕ) (early : List Action) (trail : List Seen) → own_of t actions ≡ [] → trail ≡ [] → early ≡ [] → KnowsRun l actions t early trail
knows_none l actions t early trail none no_trail no_actions = record {
  later = actions;
  goes_on = ap (λ (d : List Action). d ++ actions) (sym no_actions);
  ends = inl no_actions;
  of_others = none;
  trail_is = no_trail ∙ ap (part_of (start l) t) (sym no_actions);
}

-- and its data are as at the start
pub stands_first : (l : Limits) (t : ℕ) (early : List Action) (x : SeatState) → early ≡ [] → x ≡ absent → seat (reached l (events_of early)).seats t ≡ x
stands_first l t early x no_actions stands = (λ i. seat (reached l (events_of (no_actions i))).seats t) ∙ (starts_absent l.seats t ∙ sym stands)

-- the view z knows of the run what v knows
abbrev pub SaysTheSame : {T : Type 0} → View T → View T → Type 0
SaysTheSame z v = (z.trail ≡ v.trail) × (z.actions ≡ v.actions) × (z.state ≡ v.state)

-- the view is that of a seat that has made no action
abbrev pub SaysNothing : {T : Type 0} → View T → Type 0
SaysNothing z = (z.trail ≡ []) × (z.actions ≡ []) × (z.state ≡ absent)

module _ {Allowed : Limits → Type 0} {T : Type 0} (l : Limits) (actions : List Action) (c : Core) (views : List (View T)) (run : HasRunWithin Allowed l actions c views) where
  -- the seat at place id has acted, and records this
  module _ (more : List Action) (d : Core) (id : ℕ) (v w : View T) (x : Seen) (at : get_elem? views id ≡ some v) (leads : d ≡ run_of c (events_of more)) (notes : w.trail ≡ v.trail ++ x ∷ [])
      (part : (t : ℕ) → part_of c t more ≡ if_own (id + 1) t x) (only : (t : ℕ) → id + 1 ≢ t → own_of t more ≡ []) (last : LastIsOwn (id + 1) more) (knows : w.actions ≡ actions ++ more) (stands : seat d.seats (id + 1) ≡ w.state) where
    parts : (t : ℕ) → part_of (start l) t (actions ++ more) ≡ part_of (start l) t actions ++ if_own (id + 1) t x
    parts t = part_join (start l) t actions more ∙ (ap (λ (b : Core). part_of (start l) t actions ++ part_of b t more) (sym run.here) ∙ ap (λ (q : List Seen). part_of (start l) t actions ++ q) (part t))

    own_part : part_of (start l) (id + 1) (actions ++ more) ≡ part_of (start l) (id + 1) actions ++ x ∷ []
    own_part = parts (id + 1) ∙ ap (λ (q : List Seen). part_of (start l) (id + 1) actions ++ q) (own (id + 1) x)

    other_part : (t : ℕ) → id + 1 ≢ t → part_of (start l) t (actions ++ more) ≡ part_of (start l) t actions
    other_part t other = parts t ∙ (ap (λ (q : List Seen). part_of (start l) t actions ++ q) (not_own (id + 1) t x other) ∙ append-nil (part_of (start l) t actions))

    -- these actions are those of no other seat
    still : (t : ℕ) (early : List Action) → id + 1 ≢ t → own_of t early ≡ [] → own_of t (early ++ more) ≡ []
    still t early other none = own_join t early more ∙ (λ i. none i ++ only t other i)

    leads_on : d ≡ reached l (events_of (actions ++ more))
    leads_on = leads ∙ (ap (λ (b : Core). run_of b (events_of more)) run.here ∙ sym (led_join (start l) actions more))

    own_trail : w.trail ≡ part_of (start l) (id + 1) (actions ++ more)
    own_trail = notes ∙ (ap (λ (q : List Seen). q ++ x ∷ []) (run.trails id v at) ∙ sym own_part)

    -- the seat knows the run up to now, which ends with its action
    own_known : KnowsRun l (actions ++ more) (id + 1) w.actions w.trail
    own_known = record {
      later = [];
      goes_on = sym (append-nil (actions ++ more)) ∙ ap (λ (d : List Action). d ++ []) (sym knows);
      ends = inr (subst (λ (d : List Action). LastIsOwn (id + 1) d) (sym knows) (last_join (id + 1) actions more last));
      of_others = refl;
      trail_is = own_trail ∙ ap (part_of (start l) (id + 1)) (sym knows);
    }

    own_stands : seat (reached l (events_of w.actions)).seats (id + 1) ≡ w.state
    own_stands = ap (λ (d : List Action). seat (reached l (events_of d)).seats (id + 1)) knows ∙ (ap (λ (b : Core). seat b.seats (id + 1)) (sym leads_on) ∙ stands)

    other_known : (t : ℕ) (early : List Action) (trail : List Seen) → id + 1 ≢ t → KnowsRun l actions t early trail → KnowsRun l (actions ++ more) t early trail
    other_known t early trail other k = record {
      later = k.later ++ more;
      goes_on = ap (λ (d : List Action). d ++ more) k.goes_on ∙ append_assoc early k.later more;
      ends = k.ends;
      of_others = still t k.later other k.of_others;
      trail_is = k.trail_is;
    }

    pub run_goes_on : HasRunWithin Allowed l (actions ++ more) d (set views id w)
    run_goes_on = record {
      allowed = run.allowed;
      here = leads_on;
      trails = λ j z e. ⊎_elim
          (λ (t : (j ≡ id) × (w ≡ z)). subst (λ (u : ℕ × View T). u.1.trail ≡ part_of (start l) (u.0 + 1) (actions ++ more)) (λ i. (sym t.0 i, t.1 i)) own_trail)
          (λ (t : (j ≢ id) × (get_elem? views j ≡ some z)). run.trails j z t.1 ∙ sym (other_part (j + 1) (λ e. t.0 (omega (arith, e)))))
          (at_set views id j w z e);
      known = λ j z e. ⊎_elim
          (λ (t : (j ≡ id) × (w ≡ z)). subst (λ (u : ℕ × View T). KnowsRun l (actions ++ more) (u.0 + 1) u.1.actions u.1.trail) (λ i. (sym t.0 i, t.1 i)) own_known)
          (λ (t : (j ≢ id) × (get_elem? views j ≡ some z)). other_known (j + 1) z.actions z.trail (λ e. t.0 (omega (arith, e))) (run.known j z t.1))
          (at_set views id j w z e);
      stands = λ j z e. ⊎_elim
          (λ (t : (j ≡ id) × (w ≡ z)). subst (λ (u : ℕ × View T). seat (reached l (events_of u.1.actions)).seats (u.0 + 1) ≡ u.1.state) (λ i. (sym t.0 i, t.1 i)) own_stands)
          (λ (t : (j ≢ id) × (get_elem? views j ≡ some z)). run.stands j z t.1)
          (at_set views id j w z e);
      others = λ t out.
          let same = length-set views id w in let here = at_place views id v at in
          ⊎_elim
          (λ (none : t ≡ 0). still t actions (λ e. omega (arith, e, none)) (run.others t (inl none)))
          (λ (far : length (set views id w) < t). still t actions (λ e. omega (arith, e, far, same, here)) (run.others t (inr (omega (arith, far, same)))))
          out;
    }

    -- and the run has continued from what the seat knew before
    pub goes_on_by : v.number ≡ id + 1 → l ≡ v.limits → RunGoesOnBy more v w
    goes_on_by named limits_are =
        let k = run.known id v at in
        let between = k.later ++ more in
        let led : run_of (reached l (events_of v.actions)) (events_of k.later) ≡ c = sym (led_join (start l) v.actions k.later) ∙ (ap (λ (d : List Action). reached l (events_of d)) (sym k.goes_on) ∙ sym run.here) in
        let noted : part_of (reached l (events_of v.actions)) (id + 1) between ≡ x ∷ [] =
        part_join (reached l (events_of v.actions)) (id + 1) k.later more
        ∙ ((λ i. no_part (reached l (events_of v.actions)) (id + 1) k.later k.of_others i ++ part_of (led i) (id + 1) more) ∙ (part (id + 1) ∙ own (id + 1) x)) in
        record {
          others = k.later;
          of_others = ap (λ (t : ℕ). own_of t k.later) named ∙ k.of_others;
          actions = knows ∙ (ap (λ (d : List Action). d ++ more) k.goes_on ∙ append_assoc v.actions k.later more);
          trail = notes ∙ ap (λ (q : List Seen). v.trail ++ q) (sym noted ∙ (λ i. part_of (reached (limits_are i) (events_of v.actions)) (sym named i) between));
        }

  -- No seat has acted: each view has the data of the run that an earlier one had, or is new.
  pub run_stays : (after : List (View T)) → length views ≤ length after
      → ((j : ℕ) (z : View T) → get_elem? after j ≡ some z → ((v : View T) × (get_elem? views j ≡ some v) × SaysTheSame z v) ⊎ ((length views ≤ j) × SaysNothing z))
      → HasRunWithin Allowed l actions c after
  run_stays after longer same = record {
    allowed = run.allowed;
    here = run.here;
    trails = λ j z e. ⊎_elim
        (λ (t : (v : View T) × (get_elem? views j ≡ some v) × SaysTheSame z v). t.2.0 ∙ run.trails j t.0 t.1)
        (λ (t : (length views ≤ j) × SaysNothing z). let far = t.0 in t.1.0 ∙ sym (no_part (start l) (j + 1) actions (run.others (j + 1) (inr (omega (arith, far))))))
        (same j z e);
    known = λ j z e. ⊎_elim
        (λ (t : (v : View T) × (get_elem? views j ≡ some v) × SaysTheSame z v). subst (λ (u : List Action × List Seen). KnowsRun l actions (j + 1) u.0 u.1) (λ i. (sym t.2.1 i, sym t.2.0 i)) (run.known j t.0 t.1))
        (λ (t : (length views ≤ j) × SaysNothing z). let far = t.0 in knows_none l actions (j + 1) z.actions z.trail (run.others (j + 1) (inr (omega (arith, far)))) t.1.0 t.1.1)
        (same j z e);
    stands = λ j z e. ⊎_elim
        (λ (t : (v : View T) × (get_elem? views j ≡ some v) × SaysTheSame z v). ap (λ (d : List Action). seat (reached l (events_of d)).seats (j + 1)) t.2.1 ∙ (run.stands j t.0 t.1 ∙ sym t.2.2))
        (λ (t : (length views ≤ j) × SaysNothing z). stands_first l (j + 1) z.actions z.state t.1.1 t.1.2)
        (same j z e);
    others = λ t out. run.others t (⊎_elim (λ (none : t ≡ 0). inl none) (λ (far : length after < t). inr (omega (arith, far, longer))) out);
  }

-- From one view to the next

pub run_same : {T : Type 0} {v : View T} → RunGoesOn v v
run_same {T} {v} = record { number = refl; limits_are = refl; between = []; ends = inl refl; actions = sym (append-nil v.actions); trail = sym (append-nil v.trail) }

pub run_next : {T : Type 0} {u v w : View T} → RunGoesOn u v → RunGoesOn v w → RunGoesOn u w
run_next {T} {u} {v} {w} g h =
    let led : reached v.limits (events_of v.actions) ≡ run_of (reached u.limits (events_of u.actions)) (events_of g.between) =
    (λ i. reached (g.limits_are i) (events_of (g.actions i))) ∙ led_join (start u.limits) u.actions g.between in
    record {
      number = h.number ∙ g.number;
      limits_are = h.limits_are ∙ g.limits_are;
      between = g.between ++ h.between;
      ends = ends_join u.number g.between h.between g.ends (subst (λ (t : ℕ). EndsWithOwn t h.between) g.number h.ends);
      actions = h.actions ∙ (ap (λ (d : List Action). d ++ h.between) g.actions ∙ append_assoc u.actions g.between h.between);
      trail = h.trail ∙ ((λ i. g.trail i ++ part_of (led i) (g.number i) h.between)
          ∙ (append_assoc u.trail (next_part u g.between) (part_of (run_of (reached u.limits (events_of u.actions)) (events_of g.between)) u.number h.between)
          ∙ ap (λ (q : List Seen). u.trail ++ q) (sym (part_join (reached u.limits (events_of u.actions)) u.number g.between h.between))));
    }

pub run_by : {T : Type 0} {own : List Action} {v w : View T} → w.number ≡ v.number → w.limits ≡ v.limits → LastIsOwn v.number own → RunGoesOnBy own v w → RunGoesOn v w
run_by {T} {own} {v} {w} number limits_are last g =
    record { number = number; limits_are = limits_are; between = g.others ++ own; ends = inr (last_join v.number g.others own last); actions = g.actions; trail = g.trail }

-- a seat whose trail has not grown knows no more than before
pub run_rests : {T : Type 0} (v w : View T) → RunGoesOn v w → w.trail ≡ v.trail → w.actions ≡ v.actions
run_rests v w g same =
    let nothing : next_part v g.between ≡ [] = append_cancel_left v.trail (next_part v g.between) [] (sym g.trail ∙ (same ∙ sym (append-nil v.trail))) in
    let none : g.between ≡ [] = none_noted (reached v.limits (events_of v.actions)) v.number g.between g.ends nothing in
    g.actions ∙ (ap (λ (d : List Action). v.actions ++ d) none ∙ append-nil v.actions)

-- The budget

-- no action changes the budget, so it stays within the limits
pub run_budget : {T : Type 0} (l : Limits) (actions : List Action) (c : Core) (views : List (View T)) → HasRun l actions c views → c.budget ≤ max_budget
run_budget l actions c views run =
    let same : c.budget ≡ l.budget = ap (λ (d : Core). d.budget) run.here ∙ ap (λ (k : Limits). k.budget) (limits_stay l (events_of actions)) in
    let small = small_budget l.seats l.budget run.allowed in
    omega (arith, same, small)
