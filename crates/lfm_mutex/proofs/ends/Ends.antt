-- The list of seats that is handed to a close, and the end of a table.
use Rattle.std.specs.List.{remove}
use Rattle.std.specs.Prelude.{Bool, true, false}
use Rattle.std.proofs.lemmas.Bool.{false≢true}
use Rattle.std.proofs.Common.{◌≡◌, ◌≢◌, ℕ, zero, suc, eqb, eq-eqb, ne_eqb, if◌then◌else◌, ◌+◌, ◌<◌, ◌≤◌, List, [], ◌∷◌, ◌++◌, length, get_or, sym, refl, ap, ◌∙◌, subst, ◌⊎◌, ⊎_elim, inl, inr, arith, Option, Some, None}
use mathlib.Core.Option.{some, some-injective, some-ne-none}
use lib.ListN.{get_elem?}
use mathlib.Core.Logic.{dite}
use native.Mathlib.Decide.{ℕ_discrete}
use Rattle.lfm_table.specs.Table.{State, Me, Final, Seen}
use Rattle.lfm_table.proofs.Lists.{at_last, at_longer, at_index}
use Rattle.lfm_protocol.specs.declared.answers.Call.{Call}
use Rattle.lfm_protocol.specs.declared.limits.Limits.{Limits}
use Rattle.lfm_protocol.specs.declared.points.Point.{Point}
use Rattle.lfm_protocol.specs.declared.points.Point.TheVariants.{Rest}
use Rattle.lfm_protocol.specs.declared.seats.SeatState.{SeatState}
use Rattle.lfm_laws.specs.table.Carried.{carries_value}
use Rattle.lfm_protocol.specs.Core.{limits}
use Rattle.lfm_protocol.specs.Limits.{are_in_limits}
use Rattle.lfm_protocol.specs.Seats.{seat}
use Rattle.lfm_protocol.specs.Step.{start}
use Rattle.lfm_laws.specs.laws.Schedules.{reached}
use Rattle.lfm_laws.proofs.lawful.runs.LimitsKept.{limits_stay}
use Rattle.lfm_table.specs.Actions.{KnowsRun, events_of, own_of, part_of}
use Rattle.lfm_laws.specs.table.Settles.{begun}
use Rattle.lfm_laws.proofs.steady.frames.Entries.{seat_zero}
use Rattle.lfm_model.specs.declared.refusals.Missing.{Missing}
use Rattle.lfm_model.specs.declared.refusals.Missing.TheVariants.{NotBack, Holding, Asleep as Sleeping}
use Rattle.lfm_table.specs.declared.seat_view.Action.{Action}
use Rattle.lfm_table.specs.declared.seat_view.Role.{Role}
use Rattle.lfm_table.specs.declared.seat_view.Role.TheVariants.{User, Retired}
use Rattle.lfm_table.specs.declared.seat_view.Joined.{Joined}
use Rattle.lfm_table.specs.declared.seat_view.Seen.{Seen as Trailed}
use Rattle.lfm_table.specs.declared.seat_view.View.{View}
use Rattle.lfm_table.specs.declared.rule.Moving.{Moving}
use Rattle.lfm_mutex.specs.Close.{Hinders, Hindered, named, AreFree, IsFree}
use Rattle.lfm_mutex.proofs.ends.FreeWords.{free_core}
use Rattle.lfm_mutex.proofs.runs.CallStarts.{begin_rests}
use Rattle.lfm_table.specs.Reach.{Reached}
use Rattle.lfm_mutex.specs.calls.Sight.{Sight, is_asleep, by_depth}
use Rattle.lfm_table.specs.Rule.{sum_over, retired, retired_at, in_hand, Held, NoneEnded, LeftIn, joined_of}
use Rattle.lfm_table.specs.Seats.{Seated}
use Rattle.lfm_table.specs.Settled.{Became, calls_to}
use Rattle.lfm_table.proofs.tables.RuleKept.{length_at}
use Rattle.lfm_table.proofs.tables.StepFacts.{became_depth}

total_at : {A : Type 0} (f : A → ℕ) (l : List A) (i : ℕ) (a : A) → get_elem? l i ≡ some a → f a ≤ sum_over f l
total_at f [] i a e = absurd (some-ne-none a (sym e))
total_at f (x ∷ xs) zero a e = let q : f x ≡ f a = ap f (some-injective x a e) in omega arith
total_at f (x ∷ xs) (suc i) a e = let h = total_at f xs i a e in omega arith

total_two : {A : Type 0} (f : A → ℕ) (l : List A) (i j : ℕ) (a b : A) → get_elem? l i ≡ some a → get_elem? l j ≡ some b → j ≢ i → f a + f b ≤ sum_over f l
total_two f [] i j a b e h n = absurd (some-ne-none a (sym e))
total_two f (x ∷ xs) zero zero a b e h n = absurd (n refl)
total_two f (x ∷ xs) zero (suc j) a b e h n = let q : f x ≡ f a = ap f (some-injective x a e) in let t = total_at f xs j b h in omega arith
total_two f (x ∷ xs) (suc i) zero a b e h n = let q : f x ≡ f b = ap f (some-injective x b h) in let t = total_at f xs i a e in omega arith
total_two f (x ∷ xs) (suc i) (suc j) a b e h n = let t = total_two f xs i j a b e h (λ q. n (ap suc q)) in omega arith

-- A seat that rests after the start of a call rested before it

begun_rests : (x : SeatState) (l : Limits) (calls : List Call) → (begun x l calls).point ≡ Rest → x.point ≡ Rest
begun_rests x l [] e = e
begun_rests x l (call ∷ calls) e = begun_rests x l calls (begin_rests (begun x l calls) l call e)

pub became_rests : (x : SeatState) (l : Limits) (p : SeatState) → Became x l p → p.point ≡ Rest → x.point ≡ Rest
became_rests x l p b e = begun_rests x l (calls_to x p) (ap (λ y. y.point) (sym b.leads) ∙ e)

resting : (x : SeatState) → x.point ≡ Rest → x.depth ≡ 0 → carries_value x ≡ false
resting x rests flat = rw (rests, flat) refl

-- a seat that may be joined: it carries nothing
pub free_seat : {T : Type 0} (number : ℕ) (l : Limits) (p : SeatState) (m : Me (Option (Moving T)) (View T)) (a : Option (Moving T)) → Seated number l p m a → Became m.0.state l p → p.depth ≡ 0 → p.point ≡ Rest
    → (m.0.role ≡ User) × (m.1 ≡ []) × (m.0.state.point ≡ Rest) × (m.0.state.depth ≡ 0)
free_seat number l p m a s b shallow rests = (s.user, s.hand ∙ ap in_hand (resting p rests shallow), became_rests m.0.state l p b rests, became_depth m.0.state l p b shallow)

is_user : (r : Role) → (r ≡ User) ⊎ (r ≡ Retired)
is_user User = inl refl
is_user Retired = inr refl

abbrev used_at : Role → ℕ
used_at User = 1
used_at _ = 0

one_role : (r : Role) → retired_at r + used_at r ≡ 1
one_role User = refl
one_role Retired = refl

module _ {T : Type 0} where
  abbrev used : View T → ℕ
  used v = used_at v.role

  roles : (vs : List (View T)) → sum_over retired vs + sum_over used vs ≡ length vs
  roles [] = refl
  roles (v ∷ vs) = let a = roles vs in let b = one_role v.role in omega arith

pub there_or_past : {A : Type 0} (l : List A) (j : ℕ) → ((x : A) × (get_elem? l j ≡ some x)) ⊎ (length l ≤ j)
there_or_past [] j = inr (omega arith)
there_or_past (x ∷ xs) zero = inl (x, refl)
there_or_past (x ∷ xs) (suc j) = ⊎_elim (λ t. inl (t.0, t.1)) (λ h. inr (omega (arith, h))) (there_or_past xs j)

module _ {T : Type 0} (follows : ℕ → T → T → Type 0) (suits : T → ℕ → Type 0) where
  abbrev St : Type 0
  St = State (Option (Moving T)) (View T)

  abbrev IsResting : SeatState → Type 0
  IsResting x = (x.point ≡ Rest) × (x.depth ≡ 0)

  -- if all seats are back, seat 1 is the only one whose view is not joined (by counting roles)
  last_user : (s : St) (h : Held follows suits s) (v : View T) → get_elem? s.views 0 ≡ some v → v.made ≤ length v.joined → (j : ℕ) (z : View T) → get_elem? s.views j ≡ some z → z.role ≡ User → v ≡ z
  last_user s h v at back j z e u =
      let k = h.root v at in let r = roles s.views in let one : used v ≡ 1 = ap used_at k.user in let e0 = k.made in let e1 = k.back in
      dite (ℕ_discrete j 0)
      (λ zero_j. some-injective v z (sym at ∙ subst (λ (i : ℕ). get_elem? s.views i ≡ some z) zero_j e))
      (λ other. absurd (let one' : used z ≡ 1 = ap used_at u in let b = total_two used s.views 0 j v z at e other in omega arith))

  -- if all seats are back, each of them rests
  all_rest : (s : St) (h : Held follows suits s) (v : View T) → get_elem? s.views 0 ≡ some v → v.made ≤ length v.joined → v.state.point ≡ Rest → v.state.depth ≡ 0 → (t : ℕ) → IsResting (seat h.core.seats t)
  all_rest s h v at back rests flat zero = subst IsResting (sym (seat_zero h.core.seats)) (refl, refl)
  all_rest s h v at back rests flat (suc j) =
      let next : suc j ≡ j + 1 = omega arith in
      subst (λ (n : ℕ). IsResting (seat h.core.seats n)) (sym next) (⊎_elim
      (λ (z : (x : View T) × (get_elem? s.views j ≡ some x)). subst IsResting (sym (h.each j z.0 z.1).state) (⊎_elim
      (λ (u : z.0.role ≡ User). subst (λ (y : View T). IsResting y.state) (last_user s h v at back j z.0 z.1 u) (rests, flat))
      (λ (u : z.0.role ≡ Retired). h.others j z.0 z.1 u) (is_user z.0.role)))
      (λ far. subst IsResting (sym (h.later j far)) (refl, refl)) (there_or_past s.views j))

  -- the value at the end is reached from the value that each seat left last
  abbrev pub ReachesAll : View T → T → Type 0
  ReachesAll v w = ((l : T) → v.last ≡ Some l → Reached follows v.limits.seats v.number l w) × ((i : ℕ) (g : Joined T) (l : T) → get_elem? v.joined i ≡ some g → g.last ≡ Some l → Reached follows v.limits.seats g.number l w)

  -- no seat has ended a hold
  abbrev pub NoneAtEnd : View T → Type 0
  NoneAtEnd v = (v.last_found ≡ None) × ((i : ℕ) (g : Joined T) → get_elem? v.joined i ≡ some g → g.found ≡ None)

  -- seat 1, or a seat that was joined, left the value at the end last
  abbrev pub LeftAtEnd : View T → T → Type 0
  LeftAtEnd v w = ((v.last ≡ Some w) × (v.last_found ≡ None → NoneAtEnd v)) ⊎ ((i : ℕ) × (g : Joined T) × (get_elem? v.joined i ≡ some g) × (g.last ≡ Some w) × (g.found ≡ None → NoneAtEnd v))

  -- seat 1, or a seat that was joined, has this number, left this value last, and ended its last hold with the number `ended`
  abbrev pub Among : View T → ℕ → Option T → ℕ → Type 0
  Among v number last ended =
      ((v.number ≡ number) × (v.last ≡ last) × (v.ended ≡ ended)) ⊎ ((i : ℕ) × (g : Joined T) × (get_elem? v.joined i ≡ some g) × (g.number ≡ number) × (g.last ≡ last) × (g.ended ≡ ended))

  -- `count` holds have ended, and this seat left the value at the end with the last of them, or, if none has ended, it is the
  -- opening value
  pub record LatestAtEnd (v : View T) (w : T) : Type 0 where
    pub seat : ℕ
    pub count : ℕ
    pub there : Among v seat (Some w) count
    pub later : (j : ℕ) (l : Option T) (m : ℕ) → Among v j l m → j ≢ seat → 0 < count → m < count
    pub never : (j : ℕ) (l : Option T) (m : ℕ) → Among v j l m → count ≡ 0 → (m ≡ 0) × (l ≡ Some w)

  view_of : (s : St) (h : Held follows suits s) (v : View T) → get_elem? s.views 0 ≡ some v → (j : ℕ) (l : Option T) (m : ℕ) → Among v j l m
      → (i : ℕ) × (z : View T) × (get_elem? s.views i ≡ some z) × (j ≡ i + 1) × (z.last ≡ l) × (z.ended ≡ m)
  view_of s h v at j l m is = elim is [
    | inl u ↦ (0, v, at, sym u.0 ∙ (h.each 0 v at).number, u.1, u.2)
    | inr u ↦ let a = (h.root v at).kept u.0 u.1 u.2 in (a.0, a.1, a.2, sym u.3 ∙ (sym a.4 ∙ (h.each a.0 a.1 a.2).number), a.5 ∙ u.4, a.7 ∙ u.5)
  ]

  latest : (s : St) (h : Held follows suits s) (v : View T) → get_elem? s.views 0 ≡ some v → v.made ≤ length v.joined → (w : T) → LeftIn s.views h.holds_ended w → LatestAtEnd v w
  latest s h v at back w left = record {
    seat = left.0 + 1;
    count = h.holds_ended;
    there = ⊎_elim
        (λ (u : left.1.role ≡ User). let one = last_user s h v at back left.0 left.1 left.2 u in inl (ap (λ (z : View T). z.number) one ∙ (h.each left.0 left.1 left.2).number, ap (λ (z : View T). z.last) one ∙ left.3, ap (λ (z : View T). z.ended) one ∙ left.5))
        (λ (u : left.1.role ≡ Retired). let a = (h.root v at).gone left.0 left.1 left.2 u in inr (a.0, joined_of left.1, a.1, (h.each left.0 left.1 left.2).number, left.3, left.5)) (is_user left.1.role);
    later = λ j l m is other some.
        let z = view_of s h v at j l m is in
        let within = h.numbered.within z.0 z.1 z.2 in
        let ended = z.5 in dite (ℕ_discrete m h.holds_ended)
        (λ e. absurd (other (z.3 ∙ ap (λ (k : ℕ). k + 1) (h.numbered.differ z.0 left.0 z.1 left.1 z.2 left.2 (omega (arith, ended, e, some)) (z.5 ∙ (e ∙ sym left.5))))))
        (λ less. omega (arith, within, ended, less));
    never = λ j l m is none.
        let z = view_of s h v at j l m is in
        let within = h.numbered.within z.0 z.1 z.2 in
        let ended = z.5 in (
          omega (arith, within, ended, none),
          sym z.4 ∙ (h.numbered.opens v z.0 z.1 at z.2 (omega (arith, within, none)) ∙ (sym (h.numbered.opens v left.0 left.1 at left.2 (left.5 ∙ none)) ∙ left.3)),
        );
  }

  none_end : (s : St) (h : Held follows suits s) (v : View T) → get_elem? s.views 0 ≡ some v → NoneEnded s.views → NoneAtEnd v
  none_end s h v at all = (all 0 v at, λ i g e. let a = (h.root v at).kept i g e in sym a.6 ∙ all a.0 a.1 a.2)

  left_last : (s : St) (h : Held follows suits s) (v : View T) → get_elem? s.views 0 ≡ some v → v.made ≤ length v.joined → (w : T) → LeftIn s.views h.holds_ended w → LeftAtEnd v w
  left_last s h v at back w left = ⊎_elim
      (λ (u : left.1.role ≡ User). let one = last_user s h v at back left.0 left.1 left.2 u in inl (ap (λ (z : View T). z.last) one ∙ left.3, λ none. none_end s h v at (left.4 (sym (ap (λ (z : View T). z.last_found) one) ∙ none))))
      (λ (u : left.1.role ≡ Retired). let a = (h.root v at).gone left.0 left.1 left.2 u in inr (a.0, joined_of left.1, a.1, left.3, λ none. none_end s h v at (left.4 none))) (is_user left.1.role)

  -- The trails at the end are the parts of one run, which leads from the start to a free state. Each seat knew that run up to
  -- its own last step or load for `owner`.
  pub record EndsRun (v : View T) : Type 0 where
    pub actions : List Action
    pub allowed : are_in_limits v.limits.seats v.limits.budget ≡ true
    pub free : IsFree (reached v.limits (events_of actions))
    pub own : v.trail ≡ part_of (start v.limits) v.number actions
    pub joined : (i : ℕ) (g : Joined T) → get_elem? v.joined i ≡ some g → g.trail ≡ part_of (start v.limits) g.number actions
    pub others : (t : ℕ) → (t ≡ 0) ⊎ (v.limits.seats < t) → own_of t actions ≡ []
    pub own_known : KnowsRun v.limits actions v.number v.actions v.trail
    pub joined_known : (i : ℕ) (g : Joined T) → get_elem? v.joined i ≡ some g → KnowsRun v.limits actions g.number g.actions g.trail

  ends_run : (s : St) (h : Held follows suits s) (v : View T) → get_elem? s.views 0 ≡ some v → IsFree h.core → EndsRun v
  ends_run s h v at free =
      let opened : h.opened ≡ v.limits = sym (limits_stay h.opened (events_of h.actions)) ∙ (ap limits (sym h.run.here) ∙ sym (h.each 0 v at).limits_are) in
      record {
        actions = h.actions;
        allowed = subst (λ (l : Limits). are_in_limits l.seats l.budget ≡ true) opened h.run.allowed;
        free = subst IsFree (h.run.here ∙ ap (λ (l : Limits). reached l (events_of h.actions)) opened) free;
        own = h.run.trails 0 v at ∙ (λ q. part_of (start (opened q)) (sym (h.each 0 v at).number q) h.actions);
        others = λ t out.
            let many : v.limits.seats ≡ length h.core.seats = ap (λ (l : Limits). l.seats) (h.each 0 v at).limits_are in
            let most : length s.views ≤ length h.core.seats = h.few in
            h.run.others t (⊎_elim (λ (none : t ≡ 0). inl none) (λ (far : v.limits.seats < t). inr (omega (arith, far, most, many))) out);
        joined = λ i g e. let a = (h.root v at).kept i g e in sym a.8 ∙ (h.run.trails a.0 a.1 a.2 ∙ (λ q. part_of (start (opened q)) ((sym (h.each a.0 a.1 a.2).number ∙ a.4) q) h.actions));
        own_known = subst (λ (t : Limits × ℕ). KnowsRun t.0 h.actions t.1 v.actions v.trail) (λ q. (opened q, sym (h.each 0 v at).number q)) (h.run.known 0 v at);
        joined_known = λ i g e.
            let a = (h.root v at).kept i g e in
            subst (λ (t : Limits × ℕ × List Action × List Trailed). KnowsRun t.0 h.actions t.1 t.2 t.3) (λ q. (opened q, (sym (h.each a.0 a.1 a.2).number ∙ a.4) q, a.9 q, a.8 q)) (h.run.known a.0 a.1 a.2);
      }

  pub ends : (v : View T) (ws : List ℕ) (xs : List (Option (Moving T))) → v.made ≤ length v.joined → v.state.point ≡ Rest → v.state.depth ≡ 0 → Final (Seen (Held follows suits) 0 v) ws xs
      → (x : Moving T) × (get_elem? xs 0 ≡ some (Some x)) × ReachesAll v x.value × (length v.joined ≤ v.made) × AreFree ws × (x.popped.records ≡ []) × LeftAtEnd v x.value × LatestAtEnd v x.value × EndsRun v
  ends v ws xs back rests flat end = let s = end.0 in let h = end.1.0 in let at = end.1.1 in let all = all_rest s h v at back rests flat in let free = free_core h.core h.ghost_state h.fits all in let x = h.home (λ t. resting (seat h.core.seats t) (all t).0 (all t).1) in let k = h.root v at in
      let each : (j : ℕ) (z : View T) (l : T) → get_elem? s.views j ≡ some z → z.last ≡ Some l → Reached follows v.limits.seats z.number l x.value.value =
      (λ j z l e is. subst (λ (t : Limits × ℕ). Reached follows t.0.seats t.1 l x.value.value) (λ i. (((h.each j z e).limits_are ∙ sym (h.each 0 v at).limits_are) i, sym (h.each j z e).number i)) (x.leads j z l e tt is)) in (
        x.value,
        end.4 0 (Some x.value) x.here,
        (λ l is. each 0 v l at is, λ i g l e is. let a = k.kept i g e in subst (λ (n : ℕ). Reached follows v.limits.seats n l x.value.value) a.4 (each a.0 a.1 l a.2 (a.5 ∙ is))),
        let r = roles s.views in let one : used v ≡ 1 = ap used_at k.user in let here = total_at used s.views 0 v at in let e0 = k.made in let e1 = k.back in omega arith,
        (h.core, sym end.2 ∙ h.words_are, free),
        x.records ∙ free.popped,
        left_last s h v at back x.value.value x.left,
        latest s h v at back x.value.value x.left,
        ends_run s h v at free,
      )

-- an item that was removed from the end of a list
pub was_last : {A : Type 0} (old l : List A) (x : A) → old ≡ l ++ x ∷ [] → get_elem? old (length l) ≡ some x
was_last old l x e = ap (λ z. get_elem? z (length l)) e ∙ at_last l x (length l) refl

pub was_there : {A : Type 0} (old l : List A) (x y : A) (j : ℕ) → old ≡ l ++ x ∷ [] → get_elem? l j ≡ some y → get_elem? old j ≡ some y
was_there old l x y j e at = ap (λ z. get_elem? z j) e ∙ at_longer l (x ∷ []) j y at

-- a fact on each item below i, and on the item at i
pub up_to : {A : Type 0} (P : A → Type 0) (l : List A) (i : ℕ) (x : A) → i < length l → x ≡ get_or l i x → P x → ((j : ℕ) (y : A) → j < i → get_elem? l j ≡ some y → P y) → (j : ℕ) (y : A) → j < i + 1 → get_elem? l j ≡ some y → P y
up_to P l i x here is p below j y lt e = dite (ℕ_discrete j i) (λ q. subst P (some-injective x y (sym (at_index l i x here is) ∙ (ap (get_elem? l) (sym q) ∙ e))) p) (λ n. below j y (omega arith) e)

-- the item that a loop over a list has reached
pub item_at : {A : Type 0} (l m : List A) (i : ℕ) (x : A) → i < length l → x ≡ get_or m i x → m ≡ l → get_elem? l i ≡ some x
item_at l m i x here is same = at_index l i x here (is ∙ ap (λ z. get_or z i x) same)

pub each_of : {A : Type 0} (P : A → Type 0) (l : List A) (i : ℕ) → length l ≤ i → ((j : ℕ) (y : A) → j < i → get_elem? l j ≡ some y → P y) → (j : ℕ) (y : A) → get_elem? l j ≡ some y → P y
each_of P l i far below j y e = let r = length_at l j y e in below j y (omega arith) e

-- each item that is left after one was removed was in the list before
pub in_removed : {A : Type 0} (xs : List A) (i j : ℕ) (y : A) → get_elem? (remove xs i) j ≡ some y → (k : ℕ) × (get_elem? xs k ≡ some y)
in_removed [] zero j y e = absurd (some-ne-none y (sym e))
in_removed [] (suc i) j y e = absurd (some-ne-none y (sym e))
in_removed (x ∷ xs) zero j y e = (suc j, e)
in_removed (x ∷ xs) (suc i) zero y e = (0, e)
in_removed (x ∷ xs) (suc i) (suc j) y e = let a = in_removed xs i j y e in (suc a.0, a.1)

pub not_removed : {A : Type 0} (xs : List A) (i k : ℕ) (y : A) → get_elem? xs k ≡ some y → (k ≡ i) ⊎ ((j : ℕ) × (get_elem? (remove xs i) j ≡ some y))
not_removed [] i k y e = absurd (some-ne-none y (sym e))
not_removed (x ∷ xs) zero zero y e = inl refl
not_removed (x ∷ xs) zero (suc k) y e = inr (k, e)
not_removed (x ∷ xs) (suc i) zero y e = inr (0, e)
not_removed (x ∷ xs) (suc i) (suc k) y e = ⊎_elim (λ t. inl (ap suc t)) (λ t. inr (suc t.0, t.1)) (not_removed xs i k y e)

-- A list in which each number from 1 to n is found has at least n items: each item has one number.
abbrev at_number : ℕ → ℕ → ℕ
at_number k x = if eqb x k then 1 else 0

abbrev up_to_number : ℕ → ℕ → ℕ
up_to_number zero x = 0
up_to_number (suc n) x = up_to_number n x + at_number (suc n) x

at_else : (k x : ℕ) → x ≢ k → at_number k x ≡ 0
at_else k x n = ap (λ (b : Bool). (if b then 1 else 0)) (ne_eqb x k n)

at_same : (k x : ℕ) → x ≡ k → at_number k x ≡ 1
at_same k x e = ap (λ (b : Bool). (if b then 1 else 0)) (eq-eqb x k e)

above : (n x : ℕ) → n < x → up_to_number n x ≡ 0
above zero x h = refl
above (suc n) x h = let a = above n x (omega arith) in let b = at_else (suc n) x (λ e. omega arith) in omega arith

once : (n x : ℕ) → up_to_number n x ≤ 1
once zero x = omega arith
once (suc n) x = dite (ℕ_discrete x (suc n)) (λ e. let a = above n x (omega arith) in let b = at_same (suc n) x e in omega arith) (λ ne. let a = once n x in let b = at_else (suc n) x ne in omega arith)

total_once : {A : Type 0} (f : A → ℕ) (l : List A) → ((a : A) → f a ≤ 1) → sum_over f l ≤ length l
total_once f [] h = omega arith
total_once f (x ∷ xs) h = let a = h x in let b = total_once f xs h in omega arith

total_sum : {A : Type 0} (f g : A → ℕ) (l : List A) → sum_over (λ a. f a + g a) l ≡ sum_over f l + sum_over g l
total_sum f g [] = refl
total_sum f g (x ∷ xs) = let a = total_sum f g xs in omega arith

found_all : {A : Type 0} (number : A → ℕ) (l : List A) (n : ℕ) → ((k : ℕ) → 0 < k → k ≤ n → (i : ℕ) × (s : A) × (get_elem? l i ≡ some s) × (number s ≡ k)) → n ≤ sum_over (λ s. up_to_number n (number s)) l
found_all number l zero h = omega arith
found_all number l (suc n) h = let a = found_all number l n (λ k p q. h k p (omega arith)) in let s = h (suc n) (omega arith) (omega arith) in
    let b = total_at (λ s. at_number (suc n) (number s)) l s.0 s.1 s.2 in let c = at_same (suc n) (number s.1) s.3 in
    let d = total_sum (λ s. up_to_number n (number s)) (λ s. at_number (suc n) (number s)) l in omega arith

pub pigeons : {A : Type 0} (number : A → ℕ) (l : List A) (n : ℕ) → ((k : ℕ) → 0 < k → k ≤ n → (i : ℕ) × (s : A) × (get_elem? l i ≡ some s) × (number s ≡ k)) → n ≤ length l
pigeons number l n h = let a = found_all number l n h in let b = total_once (λ s. up_to_number n (number s)) l (λ s. once n (number s)) in omega arith

-- what `missing_for` returns for a seat of the list hinders the close with that list
pub hindered_at : {A : Type 0} {T : Type 0} (look : A → Sight T) (l : List A) (i : ℕ) (s : A) (k : ℕ) (m : Missing) → get_elem? l i ≡ some s → (look s).number ≡ k → Hinders m (look s) → (named m ≡ k) × Hindered look l m
hindered_at look l i s k (NotBack n) at e h = absurd h
hindered_at look l i s k (Holding n) at e h = (sym h.0 ∙ e, (i, s, at, h))
hindered_at look l i s k (Sleeping n) at e h = (sym h.0 ∙ e, (i, s, at, h))

-- the value that a seat that doesn't hold left last
pub seen_last : {A : Type 0} (d : ℕ) (x y z : A) → d ≡ 0 → by_depth d x y ≡ z → x ≡ z
seen_last zero x y z flat e = e
seen_last (suc d) x y z flat e = absurd (omega (arith, flat))

pub last_seen : {A : Type 0} (d : ℕ) (x y : A) → d ≡ 0 → by_depth d x y ≡ x
last_seen zero x y flat = refl
last_seen (suc d) x y flat = absurd (omega (arith, flat))

-- a seat that isn't asleep rests
pub rest_of : (q : Point) → is_asleep q ≡ false → q ≡ Rest
rest_of Rest e = refl
rest_of _ e = absurd (false≢true (sym e))

pub at_end_of : {A : Type 0} (l : List A) (a : A) → get_elem? (l ++ a ∷ []) (length l) ≡ some a
at_end_of l a = at_last l a (length l) refl

pub longer : {A : Type 0} (l : List A) (a : A) (j : ℕ) (y : A) → get_elem? l j ≡ some y → get_elem? (l ++ a ∷ []) j ≡ some y
longer l a j y e = at_longer l (a ∷ []) j y e
