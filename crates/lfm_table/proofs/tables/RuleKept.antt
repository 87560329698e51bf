-- Each step of a seat keeps the rule of the table.
use Rattle.std.proofs.Common.{◌≡◌, ◌≢◌, ℕ, zero, suc, ◌+◌, ◌<◌, ◌≤◌, List, [], ◌∷◌, ◌++◌, length, get_or, set, sym, refl, ap, ◌∙◌, subst, ⊎_elim, inl, inr, arith, Option, Some, None, length-set}
use Rattle.std.specs.Prelude.{Bool, true, false, ⊤}
use Rattle.std.proofs.lemmas.Bool.{false≢true}
use mathlib.Core.Option.{some, some-injective, some-ne-none, none}
use lib.ListN.{get_elem?}
use mathlib.Core.Logic.{dite}
use native.Mathlib.Decide.{ℕ_discrete}
use Rattle.atomic_table.specs.Table.{State, Me, Act, keeps, takes, gives, stepped, carried_after, put_back, Valid, Allows, rest}
use Rattle.atomic_table.proofs.Lists.{at_set, set_here, set_else}
use Rattle.lfm_words.specs.declared.links.Link.{Link}
use Rattle.lfm_words.specs.declared.pop_lists.Record.{Record}
use Rattle.lfm_words.specs.Popped.{oldest}
use Rattle.lfm_protocol.specs.declared.kinds.Kind.{Kind}
use Rattle.lfm_protocol.specs.declared.limits.Limits.{Limits}
use Rattle.lfm_protocol.specs.declared.points.Point.TheVariants.{Rest, PushExchange, ReleaseOwnerStore}
use Rattle.lfm_protocol.specs.declared.points.Pusher.{Pusher}
use Rattle.lfm_protocol.specs.declared.points.Releaser.{Releaser}
use Rattle.lfm_protocol.specs.declared.seats.SeatState.{SeatState}
use Rattle.lfm_protocol.specs.Begin as Begin
use Rattle.lfm_laws.specs.table.Carried.{carries_value, move, move_of, MovesValue, TableStep}
use Rattle.lfm_protocol.specs.Core.{Core, limits, put}
use Rattle.lfm_protocol.specs.Limits.{max_budget}
use Rattle.lfm_protocol.specs.Step.{made}
use Rattle.lfm_laws.specs.laws.Events.{answered_by}
use Rattle.lfm_laws.specs.laws.Schedules.{run_of}
use Rattle.lfm_laws.proofs.lawful.runs.LimitsKept.{limits_stay}
use Rattle.lfm_laws.specs.steady.Ghost.{Ghost}
use Rattle.lfm_laws.specs.steady.EventOutcome.{abstract}
use Rattle.lfm_protocol.specs.Place.{carries}
use Rattle.lfm_protocol.specs.Points.{kind, target}
use Rattle.lfm_laws.specs.table.Ready.{IsReady}
use Rattle.lfm_protocol.specs.Room.{PopFits}
use Rattle.lfm_protocol.specs.Seats.{seat, with_entry, absent, IsSeat}
use Rattle.lfm_laws.specs.table.Settles.{Settles, begun}
use Rattle.lfm_laws.specs.steady.Steady.{IsSeen, NumbersFit}
use Rattle.lfm_laws.specs.table.Words.{words, index, index_by, written, stepped_by, popped_by_step, link_of}
use Rattle.lfm_laws.proofs.steady.frames.Entries.{seat-with_same, seat-with_other, length-with_entry}
use Rattle.lfm_laws.proofs.steady.Room.{numbers_fit}
use Rattle.lfm_laws.proofs.steady.StepsKept.{made_keeps}
use Rattle.lfm_laws.proofs.table.Made.{budget_of_step}
use Rattle.lfm_laws.proofs.table.Settled.{is_seat-with, settles_keeps}
use Rattle.lfm_laws.proofs.table.TableSteps.{table_step, found_at}
use Rattle.lfm_laws.proofs.table.Values.{tells_value, carried_alone}
use Rattle.lfm_table.specs.declared.seat_view.Action.{Action}
use Rattle.lfm_table.specs.declared.seat_view.Role.{Role}
use Rattle.lfm_table.specs.declared.seat_view.Role.TheVariants.{User, Retired}
use Rattle.lfm_table.specs.declared.seat_view.Joined.{Joined}
use Rattle.lfm_table.specs.declared.seat_view.View.{View}
use Rattle.lfm_table.specs.declared.rule.Moving.{Moving}
use Rattle.lfm_table.specs.Reach.{IsOther, Leads, Reached}
use Rattle.lfm_table.specs.Rule.{seen, retired, retired_at, sum_over, Roots, left_by, Sits, LeadsToValue, Awaits, NoneEnded, LeftIn, AreNumbered, SameRoot, WithSeat, Held, HeldWithin, Hands, Knows, CollectsWithin, Advanced}
use Rattle.lfm_table.specs.Settled.{Became, calls_to}
use Rattle.lfm_table.specs.Actions.{HasRunWithin, LastIsOwn, RunGoesOnBy, begins_and_step, events_of, if_own, own_of, part_of, told, told_of}
use Rattle.lfm_table.specs.Steps.{stores, Ready}
use Rattle.lfm_table.proofs.tables.CoreFacts as core
use Rattle.lfm_table.proofs.tables.Actions.{goes_on_by, run_budget, run_goes_on, step_by, step_last, step_run, step_part}
use Rattle.lfm_table.proofs.tables.Numbered.{left_own, numbered_same, numbered_next}
use Rattle.lfm_table.proofs.tables.SettledKept.{settles_of}
use Rattle.lfm_table.proofs.tables.StepFacts.{release_of, released, shallow_step, no_answer, empty_depth, left_same, left_new, not_release, carrying, list_stays, told_by, told_list, became_depth}

-- Paths of values

module _ {T : Type 0} (follows : ℕ → T → T → Type 0) (seats seat : ℕ) where
  path_on : (path : List (ℕ × T)) (t : ℕ) (v w x : T) → Leads follows seats seat path v w → IsOther seats seat t → follows t w x → Leads follows seats seat (path ++ (t, x) ∷ []) v x
  path_on [] t v w x h n f = (n, subst (λ (z : T). follows t z x) (sym h) f, refl)
  path_on (p ∷ ps) t v w x h n f = (h.0, h.1, path_on ps t p.1 w x h.2 n f)

  pub stays_reached : (v : T) → Reached follows seats seat v v
  stays_reached v = ([], refl)

  -- what the seat left leads to a value, so it leads to what another seat leaves after that value
  pub reached_on : (t : ℕ) (v w x : T) → Reached follows seats seat v w → IsOther seats seat t → follows t w x → Reached follows seats seat v x
  reached_on t v w x h n f = (h.0 ++ (t, x) ∷ [], path_on h.0 t v w x h.1 n f)

-- Lists

pub total_set : {A : Type 0} (f : A → ℕ) (l : List A) (i : ℕ) (a b : A) → get_elem? l i ≡ some a → sum_over f (set l i b) + f a ≡ sum_over f l + f b
total_set f [] i a b e = absurd (some-ne-none a (sym e))
total_set f (x ∷ xs) zero a b e = let q : f x ≡ f a = ap f (some-injective x a e) in omega arith
total_set f (x ∷ xs) (suc i) a b e = let h = total_set f xs i a b e in omega arith

pub length_at : {A : Type 0} (l : List A) (i : ℕ) (a : A) → get_elem? l i ≡ some a → i < length l
length_at [] i a e = absurd (some-ne-none a (sym e))
length_at (x ∷ xs) zero a e = omega arith
length_at (x ∷ xs) (suc i) a e = let h = length_at xs i a e in omega arith

pub some_same : {A : Type 0} (x y : A) → Some x ≡ Some y → x ≡ y
some_same x y e = cc

not_none : {A : Type 0} (x : A) → Some x ≡ None → ⊥
not_none x e = cc

true_of : (b : Bool) → b ≢ false → b ≡ true
true_of true n = refl
true_of false n = absurd (n refl)

not_both : (r : Role) → r ≡ User → r ≡ Retired → ⊥
not_both r u e = cc

module _ {Allowed : Limits → Type 0} {T : Type 0} (follows : ℕ → T → T → Type 0) (suits : T → ℕ → Type 0) where
  -- The views after the view of one seat in use was replaced by w

  module _ (s : State (Option (Moving T)) (View T)) (h : HeldWithin follows suits Allowed s) (id : ℕ) (v : View T) (at : get_elem? s.views id ≡ some v) (user : v.role ≡ User) (w : View T) (same : w.role ≡ v.role) (root : SameRoot v w) where
    abbrev pub vs : List (View T)
    vs = set s.views id w

    same_total : sum_over retired vs ≡ sum_over retired s.views
    same_total = let t = total_set retired s.views id v w at in let eq : retired w ≡ retired v = ap retired_at same in omega arith

    -- a seat that was joined does not change
    stay_gone : (j : ℕ) (z : View T) → get_elem? s.views j ≡ some z → z.role ≡ Retired → get_elem? vs j ≡ some z
    stay_gone j z e is = set_else s.views id j w (λ q. not_both v.role user (ap (λ (y : View T). y.role) (some-injective v z (sym at ∙ subst (λ (i : ℕ). get_elem? s.views i ≡ some z) q e)) ∙ is)) ∙ e

    -- no seat is joined by this
    was_gone : (j : ℕ) (z : View T) → get_elem? vs j ≡ some z → z.role ≡ Retired → get_elem? s.views j ≡ some z
    was_gone j z e is = ⊎_elim
        (λ (t : (j ≡ id) × (w ≡ z)). absurd (not_both z.role (ap (λ (u : View T). u.role) (sym t.1) ∙ same ∙ user) is))
        (λ (t : (j ≢ id) × (get_elem? s.views j ≡ some z)). t.1) (at_set s.views id j w z e)

    abbrev AreKept : List (View T) → List (Joined T) → Type 0
    AreKept views joined = (i : ℕ) (g : Joined T) → get_elem? joined i ≡ some g → (j : ℕ) × (z : View T) × (get_elem? views j ≡ some z) × (z.role ≡ Retired) × (z.number ≡ g.number) × (z.last ≡ g.last) × (z.last_found ≡ g.found) × (z.ended ≡ g.ended) × (z.trail ≡ g.trail) × (z.actions ≡ g.actions)

    kept_on : (g : List (Joined T)) → AreKept s.views g → AreKept vs g
    kept_on g old i x e = let a = old i x e in (a.0, a.1, stay_gone a.0 a.1 a.2 a.3, a.3, a.4, a.5, a.6, a.7, a.8, a.9)

    roots_on : (k z : View T) → Roots s.views k → z.role ≡ k.role → z.made ≡ k.made → z.joined ≡ k.joined → Roots vs z
    roots_on k z r role made joined = record {
      user = role ∙ r.user;
      made = length-set s.views id w ∙ (r.made ∙ ap (λ (n : ℕ). n + 1) (sym made));
      back = same_total ∙ (r.back ∙ ap (λ (g : List (Joined T)). length g) (sym joined));
      kept = subst (λ (g : List (Joined T)). AreKept vs g) (sym joined) (kept_on k.joined r.kept);
      gone = λ j y e is. let a = r.gone j y (was_gone j y e is) is in (a.0, ap (λ (g : List (Joined T)). get_elem? g a.0) joined ∙ a.1);
    }

    pub root_on : (k : View T) → get_elem? vs 0 ≡ some k → Roots vs k
    root_on k e = ⊎_elim
        (λ (t : (0 ≡ id) × (w ≡ k)). roots_on v k (h.root v (subst (λ (i : ℕ). get_elem? s.views i ≡ some v) (sym t.0) at)) (ap (λ (u : View T). u.role) (sym t.1) ∙ same) (ap (λ (u : View T). u.made) (sym t.1) ∙ root.made) (ap (λ (u : View T). u.joined) (sym t.1) ∙ root.joined_are))
        (λ (t : (0 ≢ id) × (get_elem? s.views 0 ≡ some k)). roots_on k k (h.root k t.1) refl refl refl) (at_set s.views id 0 w k e)

    pub others_on : (j : ℕ) (z : View T) → get_elem? vs j ≡ some z → z.role ≡ Retired → (z.state.point ≡ Rest) × (z.state.depth ≡ 0)
    others_on j z e n = ⊎_elim (λ (t : (j ≡ id) × (w ≡ z)). absurd (not_both z.role (ap (λ (u : View T). u.role) (sym t.1) ∙ same ∙ user) n)) (λ (t : (j ≢ id) × (get_elem? s.views j ≡ some z)). h.others j z t.1 n) (at_set s.views id j w z e)

    -- each view has this state's number of seats as its limit
    limits_on : (j : ℕ) (z : View T) → get_elem? vs j ≡ some z → z.limits.seats ≡ length h.core.seats
    limits_on j z e = ⊎_elim
        (λ (t : (j ≡ id) × (w ≡ z)). ap (λ (u : View T). u.limits.seats) (sym t.1) ∙ (ap (λ (l : Limits). l.seats) root.limits_are ∙ ap (λ (l : Limits). l.seats) (h.each id v at).limits_are))
        (λ (t : (j ≢ id) × (get_elem? s.views j ≡ some z)). ap (λ (l : Limits). l.seats) (h.each j z t.1).limits_are) (at_set s.views id j w z e)

    -- the new view of this seat has the same number of seats
    limited : (z : View T) → w ≡ z → v.limits.seats ≡ z.limits.seats
    limited z e = ap (λ (l : Limits). l.seats) (sym root.limits_are) ∙ ap (λ (u : View T). u.limits.seats) e

    -- this seat is another seat for every seat whose path it may extend
    is_other : (i j : ℕ) (z : View T) → get_elem? vs i ≡ some z → j ≢ id → IsOther z.limits.seats (j + 1) (id + 1)
    is_other i j z e other = let all = limits_on i z e in let here = length_at s.views id v at in ((λ q. other (omega (arith, q))), omega arith, omega (arith, all, here, h.few))

    -- what leads to a value, except from this seat
    pub leads_off : (y : T) → LeadsToValue follows (λ j. j ≢ id) s.views y → LeadsToValue follows (λ j. j ≢ id) vs y
    leads_off y old j z l e ok is = ⊎_elim
        (λ (t : (j ≡ id) × (w ≡ z)). absurd (ok t.0))
        (λ (t : (j ≢ id) × (get_elem? s.views j ≡ some z)). old j z l t.1 ok is) (at_set s.views id j w z e)

    -- what leads to a value, if this seat's last value is unchanged
    pub leads_on : (which : ℕ → Type 0) (y : T) → w.last ≡ v.last → LeadsToValue follows which s.views y → LeadsToValue follows which vs y
    leads_on which y same_last old j z l e ok is = ⊎_elim
        (λ (t : (j ≡ id) × (w ≡ z)). subst (λ (n : ℕ). Reached follows n (j + 1) l y) (limited z t.1) (old j v l (subst (λ (i : ℕ). get_elem? s.views i ≡ some v) (sym t.0) at) ok (sym same_last ∙ ap (λ (u : View T). u.last) t.1 ∙ is)))
        (λ (t : (j ≢ id) × (get_elem? s.views j ≡ some z)). old j z l t.1 ok is) (at_set s.views id j w z e)

    -- the same if this seat's own last value leads there too
    pub leads_all : (y : T) → ((l : T) → w.last ≡ Some l → Reached follows w.limits.seats (id + 1) l y) → LeadsToValue follows (λ j. j ≢ id) s.views y → LeadsToValue follows (λ _. ⊤) vs y
    leads_all y mine old j z l e ok is = ⊎_elim
        (λ (t : (j ≡ id) × (w ≡ z)). subst (λ (u : ℕ × View T). Reached follows u.1.limits.seats (u.0 + 1) l y) (λ i. (sym t.0 i, t.1 i)) (mine l (ap (λ (u : View T). u.last) t.1 ∙ is)))
        (λ (t : (j ≢ id) × (get_elem? s.views j ≡ some z)). old j z l t.1 t.0 is) (at_set s.views id j w z e)

    -- what leads to a value also leads to what this seat leaves after it
    pub leads_next : (y z : T) → follows (id + 1) y z → LeadsToValue follows (λ j. j ≢ id) s.views y → LeadsToValue follows (λ j. j ≢ id) vs z
    leads_next y z f old j u l e ok is = reached_on follows u.limits.seats (j + 1) (id + 1) l y z (leads_off y old j u l e ok is) (is_other j j u e ok) f

    none_on : w.last_found ≡ v.last_found → NoneEnded s.views → NoneEnded vs
    none_on same_found all j z e = ⊎_elim
        (λ (t : (j ≡ id) × (w ≡ z)). ap (λ (u : View T). u.last_found) (sym t.1) ∙ (same_found ∙ all id v at))
        (λ (t : (j ≢ id) × (get_elem? s.views j ≡ some z)). all j z t.1) (at_set s.views id j w z e)

    -- some seat left the value last, if the data of this seat's last hold are unchanged
    pub left_on : (n : ℕ) (y : T) → w.last ≡ v.last → w.last_found ≡ v.last_found → w.ended ≡ v.ended → LeftIn s.views n y → LeftIn vs n y
    left_on n y same_last same_found same_ended old = dite (ℕ_discrete old.0 id)
        (λ q. let one : v ≡ old.1 = some-injective v old.1 (sym at ∙ subst (λ (i : ℕ). get_elem? s.views i ≡ some old.1) q old.2) in (
          id,
          w,
          set_here s.views id w (length_at s.views id v at),
          same_last ∙ (ap (λ (u : View T). u.last) one ∙ old.3),
          λ none. none_on same_found (old.4 (sym (ap (λ (u : View T). u.last_found) one) ∙ (sym same_found ∙ none))),
          same_ended ∙ (ap (λ (u : View T). u.ended) one ∙ old.5),
        ))
        (λ other. (old.0, old.1, set_else s.views id old.0 w other ∙ old.2, old.3, (λ none. none_on same_found (old.4 none)), old.5))

    pub awaits_on : (y : T) → Awaits follows s.views y → Awaits follows vs y
    awaits_on y old j k l far e is = let far' : length s.views ≤ j = subst (λ (n : ℕ). n ≤ j) (length-set s.views id w) far in ⊎_elim
        (λ (t : (0 ≡ id) × (w ≡ k)). subst (λ (n : ℕ). Reached follows n (j + 1) l y) (limited k t.1) (old j v l far' (subst (λ (i : ℕ). get_elem? s.views i ≡ some v) (sym t.0) at) (sym root.opening ∙ ap (λ (u : View T). u.opening) t.1 ∙ is)))
        (λ (t : (0 ≢ id) × (get_elem? s.views 0 ≡ some k)). old j k l far' t.1 is) (at_set s.views id 0 w k e)

    pub awaits_new : (y z : T) → Awaits follows s.views y → follows (id + 1) y z → Awaits follows vs z
    awaits_new y z old f j k l far e is = let here = length_at s.views id v at in let far' : length s.views ≤ j = subst (λ (n : ℕ). n ≤ j) (length-set s.views id w) far in
        reached_on follows k.limits.seats (j + 1) (id + 1) l y z (awaits_on y old j k l far e is) (is_other 0 j k e (λ q. omega (arith, q, here, far'))) f

  -- One step

  module _ (slots id : ℕ) (me : Me (Option (Moving T)) (View T)) (p : SeatState) (a : Option T) (i : ℕ) (f k : ℕ → ℕ) (user : me.0.role ≡ User) (to : Became me.0.state me.0.limits p)
      (word : i ≡ index p me.0.limits.seats me.0.number) (writes : (n : ℕ) → f n ≡ written p me.0.number n) (finds : (n : ℕ) → k n ≡ told p me.0.number n)
      (ready : Ready follows suits p a me) where
    module _ (s : State (Option (Moving T)) (View T)) (h : HeldWithin follows suits Allowed s) (at : get_elem? s.views id ≡ some me.0) where
      abbrev c : Core
      c = h.core

      abbrev g : Ghost
      g = h.ghost_state

      abbrev num : ℕ
      num = me.0.number

      abbrev n : ℕ
      n = get_or s.words i 0

      sits : Sits c id me.0
      sits = h.each id me.0 at

      placed : num ≡ id + 1
      placed = sits.number

      is : IsSeat c.seats num
      is = record { above = omega (arith, sits.number); within = let l = length_at s.views id me.0 at in omega (arith, sits.number, h.few, l) }

      here : seat c.seats num ≡ me.0.state
      here = ap (λ m. seat c.seats m) sits.number ∙ sits.state

      settles : Settles (seat c.seats num) (limits c) p
      settles = subst (λ (t : SeatState × Limits). Settles t.0 t.1 p) (λ j. (sym here j, sits.limits_are j)) (settles_of me.0.state me.0.limits p to)

      seats_are : me.0.limits.seats ≡ length c.seats
      seats_are = ap (λ l. l.seats) sits.limits_are

      n_is : found_at c num p ≡ n
      n_is = ap (λ (t : List ℕ × ℕ). get_or t.0 t.1 0) (λ j. (sym h.words_are j, (ap (λ m. index p m num) (sym seats_are) ∙ sym word) j))

      -- a step that stores nothing records what it found
      found_of : stores (kind p.point) ≡ false → k n ≡ n
      found_of no_store = finds n ∙ ap (λ (b : Bool). told_of b (written p num n) n) no_store

      -- The step, if the stamp and the posts fit their words before and after it

      module _ (numbers : NumbersFit c) (numbers_after : NumbersFit (made (put c num p) num).core) where
        ts : TableStep c g num p n
        ts = subst (λ (m : ℕ). TableStep c g num p m) n_is (table_step c g num p is h.fits h.narrow numbers numbers_after settles)

        abbrev st : Begin.Stepped
        st = stepped_by p num (k n) (oldest c.popped)

        st_is : stepped_by p num n (oldest c.popped) ≡ st
        st_is = told_by p num n (k n) (oldest c.popped) (kind p.point) found_of

        abbrev popped_after : List Record
        popped_after = popped_by_step p num (k n) c.popped

        popped_is : ts.after.popped ≡ popped_after
        popped_is = ts.popped_are ∙ told_list p (target p.point num) n (k n) c.popped (kind p.point) found_of

        seats_after : ts.after.seats ≡ with_entry c.seats num st.seat
        seats_after = ts.seats_are ∙ ap (λ z. with_entry c.seats num z.seat) st_is

        long : length ts.after.seats ≡ length c.seats
        long = ap length seats_after ∙ length-with_entry c.seats num st.seat

        limits_after : limits ts.after ≡ limits c
        limits_after = λ j. record { seats = long j; budget = ts.budget_is j }

        words_after : set s.words i (f n) ≡ words ts.after
        words_after = (λ j. set (h.words_are j) ((word ∙ ap (λ m. index p m num) seats_are) j) (writes n j)) ∙ sym ts.words_are

        mine_after : seat ts.after.seats num ≡ st.seat
        mine_after = ap (λ l. seat l num) seats_after ∙ seat-with_same c.seats num st.seat is

        other_after : (j : ℕ) → j ≢ id → seat ts.after.seats (j + 1) ≡ seat c.seats (j + 1)
        other_after j other = ap (λ l. seat l (j + 1)) seats_after ∙ seat-with_other c.seats num (j + 1) st.seat (λ e. other (omega (arith, e, placed)))

        moved : MovesValue c.seats ts.after.seats num (move p st)
        moved = subst (λ z. MovesValue c.seats ts.after.seats num (move p z)) st_is ts.moved

        answers : ts.ghost_after.answered ≡ g.answered + length (answered_by num st.turn)
        answers = ts.answers ∙ ap (λ (z : Begin.Stepped). g.answered + length (answered_by num z.turn)) st_is

        ready_after : IsReady me.0.limits.seats num st.seat
        ready_after = subst (λ (t : ℕ × SeatState). IsReady t.0 num t.1) (λ j. (sym seats_are j, ap (λ (z : Begin.Stepped). z.seat) st_is j)) ts.ready

        carried : carries_value me.0.state ≡ carries_value p
        carried = ap carries_value (sym here) ∙ core.carried_same c g num p is h.fits settles

        -- if this seat has the value
        was : carries_value p ≡ true → WithSeat follows suits c g h.holds_ended s.views id me.0
        was carries = h.outside id me.0 at (carried ∙ carries)

        knows : carries_value p ≡ true → p.depth ≡ 0 → Knows follows suits me.0
        knows carries shallow y e =
            let w = was carries in
            let same : w.value ≡ y = some_same w.value y (sym w.found ∙ e) in
            let flat = became_depth me.0.state me.0.limits p to shallow in
            let k0 = w.shallow flat in (
              subst (λ (z : T). suits z me.0.answered) same k0.0,
              (λ l is_last. subst (λ (z : T × ℕ). Reached follows me.0.limits.seats z.1 l z.0) (λ j. (same j, sym placed j)) (k0.1 l is_last)),
              subst (λ (m : ℕ). me.0.ended ≤ m) (sym w.holds) (h.numbered.within id me.0 at),
              λ own. left_own s.views h.holds_ended w.value h.numbered (w.left flat) id me.0 at (own ∙ w.holds) ∙ ap Some same,
            )

        abbrev holds_after : ℕ
        holds_after = left_by p.point (h.holds_ended + 1) h.holds_ended

        -- the run continues with the calls that the seat started since its last step, and with the step
        abbrev pub actions_now : List Action
        actions_now = begins_and_step num me.0.state p

        abbrev next_view : Option T → View T
        next_view found = record me.0 { state = st.seat; trail = me.0.trail ++ seen p.point (k n) ∷ []; actions = h.actions ++ actions_now; last = left_by p.point a me.0.last; last_found = left_by p.point me.0.found me.0.last_found; ended = left_by p.point (me.0.holds_ended + 1) me.0.ended; found = found; holds_ended = holds_after; popped = popped_after; answered = ts.ghost_after.answered }

        leads_here : p ≡ begun me.0.state (limits c) (calls_to me.0.state p)
        leads_here = to.leads ∙ ap (λ (l : Limits). begun me.0.state l (calls_to me.0.state p)) sits.limits_are

        told_is : told p num (found_at c num p) ≡ k n
        told_is = ap (told p num) n_is ∙ sym (finds n)

        part_now : (t : ℕ) → part_of c t actions_now ≡ if_own (id + 1) t (seen p.point (k n))
        part_now t = step_part c num me.0.state p is here leads_here t ∙ (λ j. if_own (placed j) t (seen p.point (told_is j)))

        only_now : (t : ℕ) → id + 1 ≢ t → own_of t actions_now ≡ []
        only_now t other = step_by num t me.0.state p (λ e. other (sym placed ∙ e))

        last_now : LastIsOwn (id + 1) actions_now
        last_now = step_last num (id + 1) me.0.state p placed

        leads_now : ts.after ≡ run_of c (events_of actions_now)
        leads_now = ts.is_made ∙ sym (step_run c num me.0.state p is here leads_here)

        stands_now : seat ts.after.seats (id + 1) ≡ st.seat
        stands_now = ap (λ m. seat ts.after.seats m) (sym placed) ∙ mine_after

        run_on : (found : Option T) → HasRunWithin Allowed h.opened (h.actions ++ actions_now) ts.after (set s.views id (next_view found))
        run_on found = run_goes_on h.opened h.actions c s.views h.run actions_now ts.after id me.0 (next_view found) (seen p.point (k n)) at leads_now refl part_now only_now last_now refl stands_now

        opened_is : h.opened ≡ me.0.limits
        opened_is = sym (limits_stay h.opened (events_of h.actions)) ∙ (ap limits (sym h.run.here) ∙ sym sits.limits_are)

        runs_on : (found : Option T) → RunGoesOnBy actions_now me.0 (next_view found)
        runs_on found = goes_on_by h.opened h.actions c s.views h.run actions_now ts.after id me.0 (next_view found) (seen p.point (k n)) at leads_now refl part_now only_now last_now refl stands_now placed opened_is

        same_root : (found : Option T) → SameRoot me.0 (next_view found)
        same_root found = record { number = refl; limits_are = refl; opening = refl; made = refl; joined_are = refl }

        sits_on : (found : Option T) (j : ℕ) (z : View T) → get_elem? (set s.views id (next_view found)) j ≡ some z → Sits ts.after j z
        sits_on found j z e = ⊎_elim
            (λ (t : (j ≡ id) × (next_view found ≡ z)). subst (λ (u : ℕ × View T). Sits ts.after u.0 u.1) (λ q. (sym t.0 q, t.1 q)) (record {
              number = placed;
              limits_are = sits.limits_are ∙ sym limits_after;
              state = ap (λ m. seat ts.after.seats m) (sym placed) ∙ mine_after;
            }))
            (λ (t : (j ≢ id) × (get_elem? s.views j ≡ some z)). let old = h.each j z t.1 in record {
              number = old.number;
              limits_are = old.limits_are ∙ sym limits_after;
              state = other_after j t.0 ∙ old.state;
            })
            (at_set s.views id j (next_view found) z e)

        later_on : (found : Option T) (j : ℕ) → length (set s.views id (next_view found)) ≤ j → seat ts.after.seats (j + 1) ≡ absent
        later_on found j far =
            let same = length-set s.views id (next_view found) in
            let l = length_at s.views id me.0 at in
            other_after j (λ e. omega (arith, e, far, same, l)) ∙ h.later j (omega (arith, far, same))

        load : (b : Option Kind) → kind p.point ≡ b → stores b ≡ false → k n ≡ n
        load b e no_store = found_of (ap stores e ∙ no_store)

        owner_of_load : kind p.point ≡ Some Kind.OwnerLoad → k n ≡ c.owner
        owner_of_load is_load = load (Some Kind.OwnerLoad) is_load refl ∙ (sym n_is ∙ ap (λ (q : Option Kind). get_or (words c) (index_by (length c.seats) (target p.point num) q) 0) is_load)

        push_of_exchange : (pusher : Pusher) (old : Link) → p.point ≡ PushExchange pusher old → link_of (k n) ≡ c.push
        push_of_exchange pusher old is_push =
            let by : kind p.point ≡ Some Kind.PushExchange = ap kind is_push in
            ap link_of (load (Some Kind.PushExchange) by refl ∙ (sym n_is ∙ ap (λ (q : Option Kind). get_or (words c) (index_by (length c.seats) (target p.point num) q) 0) by)) ∙ core.push_found c g num p is h.fits settles

        tells : (found : Option T) (hand : List (ℕ × (Option (Moving T)))) → Hands follows suits (carries_value p) (carries_value st.seat) p.point a c.popped me (next_view found, hand) → Advanced follows suits p a me (k n) (next_view found, hand)
        tells found hand hands = record {
          popped = c.popped;
          role = refl;
          root = same_root found;
          state = refl;
          trail = refl;
          run = runs_on found;
          last = refl;
          last_found = refl;
          ended = refl;
          holds = λ carries. ap (λ (m : ℕ). left_by p.point (m + 1) m) (sym (was carries).holds);
          listed = refl;
          had = λ carries. sym (was carries).popped;
          deep = core.depth_at c g num p is h.fits settles;
          answered = λ carries. answers ∙ ap (λ m. m + length (answered_by num st.turn)) (sym (was carries).answered);
          ready = ready_after;
          room = subst (λ (m : ℕ). PopFits (length c.popped) m (kind p.point)) (sym seats_are) (core.room c g num p is h.fits settles);
          collects = subst (λ (m : ℕ). CollectsWithin (length c.popped) m p.point) (sym seats_are) (core.collects c g num p is h.fits settles);
          shallow = knows;
          stamped = λ entrant stamp e. ap (λ m. m + 1) (was (carrying p (ap carries e))).answered ∙ core.stamp_told c g num p is h.fits settles entrant stamp e;
          owner = λ is_load. let o = owner_of_load is_load in let told = core.owner_found c g num p is h.fits settles in (
            (λ e. told.0 (sym o ∙ e)),
            (λ deep. o ∙ told.1 deep),
          );
          sees = λ pusher old e. subst (λ (l : Link). IsSeen l old) (sym (push_of_exchange pusher old e)) (core.push_seen c g num p is h.fits settles pusher old e);
          hands = hands;
        }

        -- the rule holds of the core that the core's step leads to, and the run has continued by exactly this
        abbrev HeldAfter : State (Option (Moving T)) (View T) → Type 0
        HeldAfter t = (after : HeldWithin follows suits Allowed t) × (after.core ≡ (made (put c num p) num).core) × (after.opened ≡ h.opened) × (after.actions ≡ h.actions ++ actions_now)

        abbrev Done : Type 0
        Done = (w : View T) × (b : Act (Option (Moving T))) × Valid s.homes me.1 b × HeldAfter (stepped s i (f n) id me.1 w b) × Advanced follows suits p a me (k n) (w, carried_after me.1 b) × (w.actions ≡ h.actions ++ actions_now)

        abbrev MovedBy : Bool → Bool → Type 0
        MovedBy b b' = MovesValue c.seats ts.after.seats num (move_of b b')

        -- the view of a seat that does not carry the value after the step
        not_after : (found : Option T) (j : ℕ) (z : View T) → get_elem? (set s.views id (next_view found)) j ≡ some z → carries_value (seat ts.after.seats (j + 1)) ≡ false → carries_value z.state ≡ true → ⊥
        not_after found j z e none_after one = false≢true (sym none_after ∙ ap carries_value (sits_on found j z e).state ∙ one)

        -- a step that leaves the seat at depth 0 has not answered a hold
        same_answers : st.seat.depth ≡ 0 → ts.ghost_after.answered ≡ g.answered
        same_answers shallow = let z = no_answer p num (k n) (oldest c.popped) shallow in let l = ap (λ (r : List Record). length r) z in omega (arith, answers, l)

        kept_found : ((r : Releaser) → p.point ≢ ReleaseOwnerStore r) → left_by p.point me.0.found me.0.last_found ≡ me.0.last_found
        kept_found other = left_same p.point me.0.found me.0.last_found other

        -- a step that ends no hold does not change how many have ended
        same_holds : ((r : Releaser) → p.point ≢ ReleaseOwnerStore r) → holds_after ≡ h.holds_ended
        same_holds other = left_same p.point (h.holds_ended + 1) h.holds_ended other

        left_kept : (found : Option T) (y : T) → ((r : Releaser) → p.point ≢ ReleaseOwnerStore r) → LeftIn s.views h.holds_ended y → LeftIn (set s.views id (next_view found)) holds_after y
        left_kept found y other old =
            subst (λ (m : ℕ). LeftIn (set s.views id (next_view found)) m y) (sym (same_holds other))
            (left_on s h id me.0 at user (next_view found) refl (same_root found) h.holds_ended y (left_same p.point a me.0.last other) (kept_found other) (left_same p.point (me.0.holds_ended + 1) me.0.ended other) old)

        -- the number of the hold that the step ends
        next_hold : (r : Releaser) → p.point ≡ ReleaseOwnerStore r → me.0.holds_ended + 1 ≡ holds_after
        next_hold r e =
            let carries = true_of (carries_value p) (λ none. not_release p.depth p.point (core.depth_at c g num p is h.fits settles) (empty_depth p none) r e) in
            ap (λ (m : ℕ). m + 1) (was carries).holds ∙ sym (left_new p.point r (h.holds_ended + 1) h.holds_ended e)

        numbered_now : (found : Option T) → AreNumbered (set s.views id (next_view found)) holds_after
        numbered_now found = elim (release_of p.point) [
          | inl r ↦
              let after : holds_after ≡ h.holds_ended + 1 = left_new p.point r.0 (h.holds_ended + 1) h.holds_ended r.1 in
              subst (λ (m : ℕ). AreNumbered (set s.views id (next_view found)) m) (sym after)
              (numbered_next s.views id me.0 (next_view found) at (length_at s.views id me.0 at) refl h.holds_ended (left_new p.point r.0 (me.0.holds_ended + 1) me.0.ended r.1 ∙ (next_hold r.0 r.1 ∙ after)) h.numbered)
          | inr other ↦
              subst (λ (m : ℕ). AreNumbered (set s.views id (next_view found)) m) (sym (same_holds other))
              (numbered_same s.views id me.0 (next_view found) at (length_at s.views id me.0 at) refl h.holds_ended (left_same p.point a me.0.last other) (left_same p.point (me.0.holds_ended + 1) me.0.ended other) h.numbered)
        ]

        -- The seat takes the value out of the slot

        gains : carries_value p ≡ false → carries_value st.seat ≡ true → MovedBy false true → Done
        gains before after did =
            let x = h.home did.0 in
            let w : View T = next_view (Some x.value.value) in
            let shallow : p.depth ≡ 0 = empty_depth p before in
            let kept : left_by p.point a me.0.last ≡ me.0.last = left_same p.point a me.0.last (not_release p.depth p.point (core.depth_at c g num p is h.fits settles) shallow) in
            let root = same_root (Some x.value.value) in (
              w,
              takes 0 (Some x.value),
              x.here,
              (
                record {
                  core = ts.after;
                  ghost_state = ts.ghost_after;
                  holds_ended = holds_after;
                  fits = ts.fits;
                  narrow = ts.narrow;
                  words_are = words_after;
                  deep = length-set s.homes 0 none ∙ h.deep;
                  few = let l = length-set s.views id w in omega (arith, l, h.few, long);
                  each = sits_on (Some x.value.value);
                  later = later_on (Some x.value.value);
                  home = λ nobody. absurd (false≢true (sym (nobody num) ∙ did.1));
                  outside = λ j z e one. ⊎_elim
                      (λ (t : (j ≡ id) × (w ≡ z)). subst (λ (u : ℕ × View T). WithSeat follows suits ts.after ts.ghost_after holds_after (set s.views id w) u.0 u.1) (λ q. (sym t.0 q, t.1 q)) (record {
                        value = x.value.value;
                        found = refl;
                        popped = sym popped_is;
                        answered = refl;
                        holds = refl;
                        leads = leads_off s h id me.0 at user w refl root x.value.value (λ j z l e ok is_last. x.leads j z l e tt is_last);
                        awaits = awaits_on s h id me.0 at user w refl root x.value.value x.awaits;
                        shallow = λ deep. (
                          subst (λ (m : ℕ). suits x.value.value m) (sym (same_answers deep)) x.fits,
                          λ l is_last. x.leads id me.0 l at tt (sym kept ∙ is_last),
                        );
                        left = λ deep. left_kept (Some x.value.value) x.value.value (not_release p.depth p.point (core.depth_at c g num p is h.fits settles) shallow) x.left;
                      }))
                      (λ (t : (j ≢ id) × (get_elem? s.views j ≡ some z)). absurd (not_after (Some x.value.value) j z e (ap carries_value (other_after j t.0) ∙ did.0 (j + 1)) one))
                      (at_set s.views id j w z e);
                  numbered = numbered_now (Some x.value.value);
                  root = root_on s h id me.0 at user w refl root;
                  others = others_on s h id me.0 at user w refl root;
                  opened = h.opened;
                  actions = h.actions ++ actions_now;
                  run = run_on (Some x.value.value);
                },
                ts.is_made,
                refl,
                refl,
              ),
              tells (Some x.value.value) ((0, Some x.value) ∷ me.1)
                  (subst (λ (t : Bool × Bool). Hands follows suits t.0 t.1 p.point a c.popped me (w, (0, Some x.value) ∷ me.1)) (λ q. (sym before q, sym after q)) (
                    x.value,
                    ap (λ (r : List (ℕ × (Option (Moving T)))). (0, Some x.value) ∷ r) (ready.empty before),
                    x.records,
                    x.room ∙ sym seats_are,
                    refl,
                  )),
              refl,
            )

        -- The seat leaves the value in the slot

        give : carries_value p ≡ true → carries_value st.seat ≡ false → MovedBy true false → Done
        give before after did =
            let out = was before in
            let ld = ready.loaded (k n) (oldest c.popped) before after in
            let x = ld.0 in
            let w : View T = next_view me.0.found in
            let root = same_root me.0.found in
            let flat : st.seat.depth ≡ 0 = empty_depth st.seat after in
            let other : (r : Releaser) → p.point ≢ ReleaseOwnerStore r = (λ r e. false≢true (sym after ∙ (released p num (k n) (oldest c.popped) r e).0)) in
            let shallow : p.depth ≡ 0 = (shallow_step p num (k n) (oldest c.popped) other).0 flat in
            let known = out.shallow (became_depth me.0.state me.0.limits p to shallow) in
            let same : out.value ≡ x.value = some_same out.value x.value (sym out.found ∙ ld.2) in
            let kept : left_by p.point a me.0.last ≡ me.0.last = left_same p.point a me.0.last other in
            let put : put_back s.homes me.1 ≡ set s.homes 0 (some (Some x)) = ap (put_back s.homes) ld.1 in
            let room : 0 < length s.homes = omega (arith, h.deep) in (
              w,
              gives,
              tt,
              (
                record {
                  core = ts.after;
                  ghost_state = ts.ghost_after;
                  holds_ended = holds_after;
                  fits = ts.fits;
                  narrow = ts.narrow;
                  words_are = words_after;
                  deep = ap length put ∙ length-set s.homes 0 (some (Some x)) ∙ h.deep;
                  few = let l = length-set s.views id w in omega (arith, l, h.few, long);
                  each = sits_on me.0.found;
                  later = later_on me.0.found;
                  home = λ nobody. record {
                    value = x;
                    here = ap (λ hs. get_elem? hs 0) put ∙ set_here s.homes 0 (some (Some x)) room;
                    records = ld.3 ∙ ap (λ (l : List Record). popped_by_step p num (k n) l) out.popped ∙ sym popped_is;
                    room = ld.4 ∙ seats_are ∙ sym long;
                    leads = leads_all s h id me.0 at user w refl root x.value
                        (λ l is_last. subst (λ (y : T). Reached follows me.0.limits.seats (id + 1) l y) same (known.1 l (sym kept ∙ is_last)))
                        (subst (λ (y : T). LeadsToValue follows (λ j. j ≢ id) s.views y) same out.leads);
                    awaits = awaits_on s h id me.0 at user w refl root x.value (subst (λ (y : T). Awaits follows s.views y) same out.awaits);
                    left = left_kept me.0.found x.value other (subst (λ (y : T). LeftIn s.views h.holds_ended y) same (out.left (became_depth me.0.state me.0.limits p to shallow)));
                    fits = subst (λ (t : T × ℕ). suits t.0 t.1) (λ q. (same q, (out.answered ∙ sym (same_answers flat)) q)) known.0;
                  };
                  outside = λ j z e one. absurd (not_after me.0.found j z e (did.1 (j + 1)) one);
                  numbered = numbered_now me.0.found;
                  root = root_on s h id me.0 at user w refl root;
                  others = others_on s h id me.0 at user w refl root;
                  opened = h.opened;
                  actions = h.actions ++ actions_now;
                  run = run_on me.0.found;
                },
                ts.is_made,
                refl,
                refl,
              ),
              tells me.0.found (rest me.1) (subst (λ (t : Bool × Bool). Hands follows suits t.0 t.1 p.point a c.popped me (w, rest me.1)) (λ q. (sym before q, sym after q)) (ap rest ld.1)),
              refl,
            )

        -- The value stays in the slot or with another seat

        leaves_be : carries_value p ≡ false → carries_value st.seat ≡ false → MovedBy false false → Done
        leaves_be before after did =
            let w : View T = next_view me.0.found in
            let root = same_root me.0.found in
            let shallow : p.depth ≡ 0 = empty_depth p before in
            let flat : st.seat.depth ≡ 0 = empty_depth st.seat after in
            let kept : left_by p.point a me.0.last ≡ me.0.last = left_same p.point a me.0.last (not_release p.depth p.point (core.depth_at c g num p is h.fits settles) shallow) in
            let list_same : c.popped ≡ ts.after.popped = sym (popped_is ∙ list_stays p num (k n) c.popped before) in
            let none_here : carries_value w.state ≡ true → ⊥ = (λ one. false≢true (sym after ∙ one)) in (
              w,
              keeps,
              tt,
              (
                record {
                  core = ts.after;
                  ghost_state = ts.ghost_after;
                  holds_ended = holds_after;
                  fits = ts.fits;
                  narrow = ts.narrow;
                  words_are = words_after;
                  deep = h.deep;
                  few = let l = length-set s.views id w in omega (arith, l, h.few, long);
                  each = sits_on me.0.found;
                  later = later_on me.0.found;
                  home = λ nobody. let x = h.home (λ t. sym (did t) ∙ nobody t) in record {
                    value = x.value;
                    here = x.here;
                    records = x.records ∙ list_same;
                    room = x.room ∙ sym long;
                    leads = leads_on s h id me.0 at user w refl root (λ _. ⊤) x.value.value kept x.leads;
                    awaits = awaits_on s h id me.0 at user w refl root x.value.value x.awaits;
                    left = left_kept me.0.found x.value.value (not_release p.depth p.point (core.depth_at c g num p is h.fits settles) shallow) x.left;
                    fits = subst (λ (m : ℕ). suits x.value.value m) (sym (same_answers flat)) x.fits;
                  };
                  outside = λ j z e one. ⊎_elim
                      (λ (t : (j ≡ id) × (w ≡ z)). absurd (none_here (ap (λ (u : View T). carries_value u.state) t.1 ∙ one)))
                      (λ (t : (j ≢ id) × (get_elem? s.views j ≡ some z)). let o = h.outside j z t.1 one in record {
                        value = o.value;
                        found = o.found;
                        popped = o.popped ∙ list_same;
                        answered = o.answered ∙ sym (same_answers flat);
                        holds = o.holds ∙ sym (same_holds (not_release p.depth p.point (core.depth_at c g num p is h.fits settles) shallow));
                        leads = leads_on s h id me.0 at user w refl root (λ q. q ≢ j) o.value kept o.leads;
                        awaits = awaits_on s h id me.0 at user w refl root o.value o.awaits;
                        shallow = o.shallow;
                        left = λ low. left_kept me.0.found o.value (not_release p.depth p.point (core.depth_at c g num p is h.fits settles) shallow) (o.left low);
                      })
                      (at_set s.views id j w z e);
                  numbered = numbered_now me.0.found;
                  root = root_on s h id me.0 at user w refl root;
                  others = others_on s h id me.0 at user w refl root;
                  opened = h.opened;
                  actions = h.actions ++ actions_now;
                  run = run_on me.0.found;
                },
                ts.is_made,
                refl,
                refl,
              ),
              tells me.0.found me.1 (subst (λ (t : Bool × Bool). Hands follows suits t.0 t.1 p.point a c.popped me (w, me.1)) (λ q. (sym before q, sym after q)) refl),
              refl,
            )

        -- The value stays with this seat

        -- what holds of the value that this seat still carries
        goes_on : carries_value p ≡ true → (w : View T) → w ≡ next_view (left_by p.point a me.0.found) → SameRoot me.0 w → w.role ≡ me.0.role
            → WithSeat follows suits ts.after ts.ghost_after holds_after (set s.views id w) id w
        goes_on before w w_is root role =
            let out = was before in
            let found_is : w.found ≡ left_by p.point a me.0.found = ap (λ (v : View T). v.found) w_is in
            let last_is : w.last ≡ left_by p.point a me.0.last = ap (λ (v : View T). v.last) w_is in
            let last_found_is : w.last_found ≡ left_by p.point me.0.found me.0.last_found = ap (λ (v : View T). v.last_found) w_is in
            let popped_w : w.popped ≡ ts.after.popped = ap (λ (v : View T). v.popped) w_is ∙ sym popped_is in
            let answered_w : w.answered ≡ ts.ghost_after.answered = ap (λ (v : View T). v.answered) w_is in
            let holds_w : w.holds_ended ≡ holds_after = ap (λ (v : View T). v.holds_ended) w_is in
            let ended_is : w.ended ≡ left_by p.point (me.0.holds_ended + 1) me.0.ended = ap (λ (v : View T). v.ended) w_is in
            elim (release_of p.point) [
              | inl r ↦
                  let lv = ready.leaves r.0 r.1 before in
                  let x = lv.0 in
                  let in_it : a ≡ Some x = lv.1 in
                  let none_new = (released p num (k n) (oldest c.popped) r.0 r.1).1 in
                  let ans : ts.ghost_after.answered ≡ me.0.answered = (let l = ap (λ (q : List Record). length q) none_new in omega (arith, answers, l, out.answered)) in
                  let step : follows (id + 1) out.value x = subst (λ (m : ℕ). follows m out.value x) placed (lv.3 out.value out.found) in
                  record {
                    value = x;
                    found = found_is ∙ left_new p.point r.0 a me.0.found r.1 ∙ in_it;
                    popped = popped_w;
                    answered = answered_w;
                    holds = holds_w;
                    leads = leads_next s h id me.0 at user w role root out.value x step out.leads;
                    awaits = awaits_new s h id me.0 at user w role root out.value x out.awaits step;
                    shallow = λ deep. (
                      subst (λ (m : ℕ). suits x m) (sym (answered_w ∙ ans)) lv.2,
                      λ l is_last. subst (λ (y : T). Reached follows w.limits.seats (id + 1) y x) (some_same x l (sym (last_is ∙ left_new p.point r.0 a me.0.last r.1 ∙ in_it) ∙ is_last)) (stays_reached follows w.limits.seats (id + 1) x),
                    );
                    left = λ deep. (id, w, set_here s.views id w (length_at s.views id me.0 at), last_is ∙ left_new p.point r.0 a me.0.last r.1 ∙ in_it, (λ none. absurd (not_none out.value (sym (last_found_is ∙ (left_new p.point r.0 me.0.found me.0.last_found r.1 ∙ out.found)) ∙ none))), ended_is ∙ (left_new p.point r.0 (me.0.holds_ended + 1) me.0.ended r.1 ∙ next_hold r.0 r.1));
                  }
              | inr other ↦
                  record {
                    value = out.value;
                    found = found_is ∙ left_same p.point a me.0.found other ∙ out.found;
                    popped = popped_w;
                    answered = answered_w;
                    holds = holds_w;
                    leads = leads_off s h id me.0 at user w role root out.value out.leads;
                    awaits = awaits_on s h id me.0 at user w role root out.value out.awaits;
                    shallow = λ deep.
                        let flat : st.seat.depth ≡ 0 = ap (λ (v : View T). v.state.depth) (sym w_is) ∙ deep in
                        let known = out.shallow (became_depth me.0.state me.0.limits p to ((shallow_step p num (k n) (oldest c.popped) other).0 flat)) in (
                          subst (λ (m : ℕ). suits out.value m) (out.answered ∙ sym (same_answers flat) ∙ sym answered_w) known.0,
                          λ l is_last. subst (λ (m : ℕ). Reached follows m (id + 1) l out.value) (ap (λ (z : Limits). z.seats) (sym root.limits_are)) (known.1 l (sym (last_is ∙ left_same p.point a me.0.last other) ∙ is_last)),
                        );
                    left = λ deep.
                        let flat : st.seat.depth ≡ 0 = ap (λ (v : View T). v.state.depth) (sym w_is) ∙ deep in
                        let was_flat = became_depth me.0.state me.0.limits p to ((shallow_step p num (k n) (oldest c.popped) other).0 flat) in
                        subst (λ (z : View T). LeftIn (set s.views id z) holds_after out.value) (sym w_is) (left_kept (left_by p.point a me.0.found) out.value other (out.left was_flat));
                  }
            ]

        -- no second seat carries the value
        alone : (j : ℕ) (z : View T) → carries_value p ≡ true → get_elem? s.views j ≡ some z → j ≢ id → carries_value z.state ≡ true → ⊥
        alone j z before e other one =
            let first : carries_value (seat c.seats num) ≡ true = ap carries_value here ∙ carried ∙ before in
            let second : carries_value (seat c.seats (j + 1)) ≡ true = ap carries_value (h.each j z e).state ∙ one in
            let same : num ≡ j + 1 = carried_alone c.seats (abstract g).place num (j + 1) (tells_value c g h.fits) first second in
            other (omega (arith, same, placed))

        keeps_it : carries_value p ≡ true → carries_value st.seat ≡ true → MovedBy true true → Done
        keeps_it before after did =
            let found : Option T = left_by p.point a me.0.found in
            let w : View T = next_view (left_by p.point a me.0.found) in
            let root = same_root (left_by p.point a me.0.found) in (
              w,
              keeps,
              tt,
              (
                record {
                  core = ts.after;
                  ghost_state = ts.ghost_after;
                  holds_ended = holds_after;
                  fits = ts.fits;
                  narrow = ts.narrow;
                  words_are = words_after;
                  deep = h.deep;
                  few = let l = length-set s.views id w in omega (arith, l, h.few, long);
                  each = sits_on found;
                  later = later_on found;
                  home = λ nobody. absurd (false≢true (sym (nobody num) ∙ ap carries_value mine_after ∙ after));
                  outside = λ j z e one. ⊎_elim
                      (λ (t : (j ≡ id) × (w ≡ z)). subst (λ (u : ℕ × View T). WithSeat follows suits ts.after ts.ghost_after holds_after (set s.views id w) u.0 u.1) (λ q. (sym t.0 q, t.1 q)) (goes_on before w refl root refl))
                      (λ (t : (j ≢ id) × (get_elem? s.views j ≡ some z)). absurd (alone j z before t.1 t.0 one))
                      (at_set s.views id j w z e);
                  numbered = numbered_now found;
                  root = root_on s h id me.0 at user w refl root;
                  others = others_on s h id me.0 at user w refl root;
                  opened = h.opened;
                  actions = h.actions ++ actions_now;
                  run = run_on found;
                },
                ts.is_made,
                refl,
                refl,
              ),
              tells found me.1 (subst (λ (t : Bool × Bool). Hands follows suits t.0 t.1 p.point a c.popped me (w, me.1)) (λ q. (sym before q, sym after q)) (refl, refl)),
              refl,
            )

        by_move : (b b' : Bool) → carries_value p ≡ b → carries_value st.seat ≡ b' → MovedBy b b' → Done
        by_move false false e e' did = leaves_be e e' did
        by_move false true e e' did = gains e e' did
        by_move true false e e' did = give e e' did
        by_move true true e e' did = keeps_it e e' did

        done : Done
        done = by_move (carries_value p) (carries_value st.seat) refl refl moved

    -- if the numbers fit before and after, a step of any kind leads to the core that the core's step leads to, and is added to
    -- the run
    pub led_within : (s : State (Option (Moving T)) (View T)) (h : HeldWithin follows suits Allowed s) (at : get_elem? s.views id ≡ some me.0) (numbers : NumbersFit h.core) (numbers_after : NumbersFit (made (put h.core me.0.number p) me.0.number).core)
        → Done s h at numbers numbers_after
    led_within s h at numbers numbers_after = done s h at numbers numbers_after

-- The limits of a mutex keep its stamp and posts within their words

module _ {T : Type 0} (follows : ℕ → T → T → Type 0) (suits : T → ℕ → Type 0) (slots id : ℕ) (me : Me (Option (Moving T)) (View T)) (p : SeatState) (a : Option T) (i : ℕ) (f k : ℕ → ℕ) (user : me.0.role ≡ User)
    (to : Became me.0.state me.0.limits p) (word : i ≡ index p me.0.limits.seats me.0.number) (writes : (n : ℕ) → f n ≡ written p me.0.number n) (finds : (n : ℕ) → k n ≡ told p me.0.number n) (ready : Ready follows suits p a me) where
  module _ (s : State (Option (Moving T)) (View T)) (h : Held follows suits s) (at : get_elem? s.views id ≡ some me.0) where
    small : h.core.budget ≤ max_budget
    small = run_budget h.opened h.actions h.core s.views h.run

    pub numbers : NumbersFit h.core
    numbers = numbers_fit h.core h.ghost_state h.fits small

    pub after : NumbersFit (made (put h.core me.0.number p) me.0.number).core
    after =
        let here = is follows suits slots id me p a i f k user to word writes finds ready s h at in
        let settled = settles follows suits slots id me p a i f k user to word writes finds ready s h at in
        let kept = made_keeps (put h.core me.0.number p) h.ghost_state me.0.number (is_seat-with h.core.seats me.0.number me.0.number p here) (settles_keeps h.core h.ghost_state me.0.number p here h.fits settled) in
        numbers_fit (made (put h.core me.0.number p) me.0.number).core kept.to kept.fits (let same = budget_of_step (put h.core me.0.number p) me.0.number in let fits = small in omega (arith, same, fits))

  -- a step of any kind leads to the core that the core's step leads to, and is added to the run
  pub led_on : (s : State (Option (Moving T)) (View T)) (h : Held follows suits s) (at : get_elem? s.views id ≡ some me.0)
      → Done follows suits slots id me p a i f k user to word writes finds ready s h at (numbers s h at) (after s h at)
  led_on s h at = led_within follows suits slots id me p a i f k user to word writes finds ready s h at (numbers s h at) (after s h at)

  -- A step of any kind keeps the rule, as the table requires of an access. By cases on whether the seat carries the value
  -- before and after the step: the value stays elsewhere (leaves_be), is gained (gains), is given away (give) or is kept
  -- (keeps_it). In each case the core's step leads to a steady state (ts). It remains to show that the value is where that
  -- state requires, and what its holder knows of it.
  pub allowed : Allows (Held follows suits) slots id me i f (λ n m'. Advanced follows suits p a me (k n) m')
  allowed s h sized at fits = let d = led_on s h at in (d.0, d.1, d.2, d.3.0, d.4)
