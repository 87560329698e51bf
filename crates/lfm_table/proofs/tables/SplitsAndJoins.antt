-- The rule still holds after a new seat is split off seat 1, and after a seat is joined into seat 1 again.
use Rattle.std.proofs.Common.{◌≡◌, ◌≢◌, ℕ, ◌+◌, ◌≤◌, List, [], ◌∷◌, ◌++◌, length, set, sym, refl, ap, ◌∙◌, subst, ⊎_elim, inl, inr, arith, Option, length-set, length-append}
use mathlib.Core.Option.{some, some-injective}
use lib.ListN.{get_elem?}
use Rattle.lfm_table.specs.Table.{State, Splits, Joins}
use Rattle.lfm_table.proofs.Lists.{at_set, set_here, set_else, at_last, at_longer}
use Rattle.lfm_protocol.specs.declared.limits.Limits.{Limits}
use Rattle.lfm_protocol.specs.declared.points.Point.TheVariants.{Rest}
use Rattle.lfm_protocol.specs.Core.{Core}
use Rattle.lfm_table.specs.declared.seat_view.Action.{Action}
use Rattle.lfm_table.specs.declared.seat_view.Role.TheVariants.{User}
use Rattle.lfm_table.specs.declared.seat_view.Joined.{Joined}
use Rattle.lfm_table.specs.declared.seat_view.View.{View}
use Rattle.lfm_table.specs.declared.rule.Moving.{Moving}
use Rattle.lfm_table.specs.Actions.{HasRunWithin}
use Rattle.lfm_table.specs.Rule.{sum_over, retired, retired_at, split_view, with_split, with_joined, joined, joined_of, Roots, HeldWithin}
use Rattle.lfm_table.proofs.tables.Actions.{SaysTheSame, SaysNothing, run_stays}
use Rattle.lfm_table.proofs.tables.RuleKept.{total_set, length_at}
use Rattle.lfm_table.proofs.tables.OneView.{at_end, total_end, get_end, not_both, parts, quiet, extends}

module _ {T : Type 0} where
  -- the views state the same about the run as before

  same_set : (views : List (View T)) (i : ℕ) (x y : View T) → get_elem? views i ≡ some x → SaysTheSame y x → (j : ℕ) (z : View T) → get_elem? (set views i y) j ≡ some z
      → (v : View T) × (get_elem? views j ≡ some v) × SaysTheSame z v
  same_set views i x y at same j z e = ⊎_elim
      (λ (t : (j ≡ i) × (y ≡ z)). (x, ap (get_elem? views) t.0 ∙ at, subst (λ (u : View T). SaysTheSame u x) t.1 same))
      (λ (t : (j ≢ i) × (get_elem? views j ≡ some z)). (z, t.1, (refl, refl, refl)))
      (at_set views i j y z e)

module _ {Allowed : Limits → Type 0} {T : Type 0} (follows : ℕ → T → T → Type 0) (suits : T → ℕ → Type 0) where
  run_split : (o : Limits) (actions : List Action) (c : Core) (views : List (View T)) → HasRunWithin Allowed o actions c views → (v : View T) → get_elem? views 0 ≡ some v → HasRunWithin Allowed o actions c (set views 0 (with_split v) ++ split_view v ∷ [])
  run_split o actions c views run v at =
      let vs = set views 0 (with_split v) in let l = length-set views 0 (with_split v) in let n = length-append vs (split_view v ∷ []) in
      run_stays o actions c views run (vs ++ split_view v ∷ []) (omega (arith, l, n)) (λ j z e. ⊎_elim
      (λ (u : get_elem? vs j ≡ some z). let a = same_set views 0 v (with_split v) at (refl, refl, refl) j z u in inl (a.0, a.1, a.2))
      (λ (u : (j ≡ length vs) × (split_view v ≡ z)). inr ((let q = u.0 in omega (arith, l, q)), subst SaysNothing u.1 (refl, refl, refl)))
      (at_end vs (split_view v) z j e))

  run_joined : (o : Limits) (actions : List Action) (c : Core) (views : List (View T)) → HasRunWithin Allowed o actions c views → (v w : View T) → get_elem? views 0 ≡ some v → (other : ℕ)
      → get_elem? (set views 0 (with_joined v w)) other ≡ some w → HasRunWithin Allowed o actions c (set (set views 0 (with_joined v w)) other (joined w))
  run_joined o actions c views run v w at other there =
      let vs = set views 0 (with_joined v w) in let l = length-set views 0 (with_joined v w) in let n = length-set vs other (joined w) in
      run_stays o actions c views run (set vs other (joined w)) (omega (arith, l, n)) (λ j z e.
      let a = same_set vs other w (joined w) there (refl, refl, refl) j z e in let b = same_set views 0 v (with_joined v w) at (refl, refl, refl) j a.0 a.1 in
      inl (b.0, b.1, (a.2.0 ∙ b.2.0, a.2.1 ∙ b.2.1, a.2.2 ∙ b.2.2)))

  pub splits : (v : View T) → v.role ≡ User → v.made + 2 ≤ v.limits.seats → Splits (HeldWithin follows suits Allowed) 0 v (with_split v) (split_view v)
  splits v user room s h at = let k = h.root v at in let l = with_split v in let r = split_view v in let vs = set s.views 0 l in let here = length_at s.views 0 v at in
      let long : length vs ≡ v.made + 1 = length-set s.views 0 l ∙ k.made in
      let q = quiet follows suits h.core h.ghost_state h.holds_ended s.homes s.views (parts follows suits s h) 0 v l at refl refl refl refl refl refl refl refl refl refl refl in
      let at' : get_elem? vs 0 ≡ some l = set_here s.views 0 l here in
      let sits = h.each 0 v at in
      let sized : v.limits.seats ≡ length h.core.seats = ap (λ (x : Limits). x.seats) sits.limits_are in
      let e = extends follows suits h.core h.ghost_state h.holds_ended s.homes vs q l r at' (omega (arith, long, room, sized)) (let n = long in let m : v.made + 2 ≡ length vs + 1 = omega arith in m) sits.limits_are refl refl refl refl in
      let t = total_set retired s.views 0 v l at in let t' = total_end retired vs r in let n = length-append vs (r ∷ []) in record {
        core = h.core;
        ghost_state = h.ghost_state;
        holds_ended = h.holds_ended;
        fits = h.fits;
        narrow = h.narrow;
        words_are = h.words_are;
        deep = h.deep;
        few = e.few;
        each = e.each;
        later = e.later;
        home = e.home;
        outside = e.outside;
        numbered = e.numbered;
        root = λ k' e'. let same : l ≡ k' = some-injective l k' (sym (get_end vs r 0 (omega arith) ∙ at') ∙ e') in subst (Roots (vs ++ r ∷ [])) same record {
          user = user;
          made = omega arith;
          back = let m : sum_over retired (vs ++ r ∷ []) ≡ sum_over retired s.views = omega arith in m ∙ k.back;
          kept = λ i g is. let a = k.kept i g is in let apart : 0 ≢ a.0 = (λ z. not_both v.role user (ap (λ (y : View T). y.role) (some-injective v a.1 (sym at ∙ subst (λ (i : ℕ). get_elem? s.views i ≡ some a.1) (sym z) a.2)) ∙ a.3)) in
              let low = length_at s.views a.0 a.1 a.2 in let len = length-set s.views 0 l in (a.0, a.1, get_end vs r a.0 (omega arith) ∙ (set_else s.views 0 a.0 l (λ z. apart (sym z)) ∙ a.2), a.3, a.4, a.5, a.6, a.7, a.8, a.9);
          gone = λ j z e is. ⊎_elim (λ u. ⊎_elim (λ (w : (j ≡ 0) × (l ≡ z)). absurd (not_both z.role (ap (λ (y : View T). y.role) (sym w.1) ∙ user) is))
              (λ (w : (j ≢ 0) × (get_elem? s.views j ≡ some z)). k.gone j z w.1 is) (at_set s.views 0 j l z u)) (λ (w : (j ≡ length vs) × (r ≡ z)). absurd (not_both z.role (ap (λ (y : View T). y.role) (sym w.1)) is)) (at_end vs r z j e);
        };
        others = λ j z e is. ⊎_elim (λ u. ⊎_elim (λ (w : (j ≡ 0) × (l ≡ z)). absurd (not_both z.role (ap (λ (y : View T). y.role) (sym w.1) ∙ user) is))
            (λ (w : (j ≢ 0) × (get_elem? s.views j ≡ some z)). h.others j z w.1 is) (at_set s.views 0 j l z u)) (λ (w : (j ≡ length vs) × (r ≡ z)). absurd (not_both z.role (ap (λ (y : View T). y.role) (sym w.1)) is)) (at_end vs r z j e);
        opened = h.opened;
        actions = h.actions;
        run = run_split h.opened h.actions h.core s.views h.run v at;
      }

  pub joins : (v w : View T) (other : ℕ) → v.role ≡ User → w.role ≡ User → w.state.point ≡ Rest → w.state.depth ≡ 0 → Joins (HeldWithin follows suits Allowed) 0 v other w (with_joined v w) (joined w)
  joins v w other user uses rests flat s h at apart there = let k = h.root v at in let b = with_joined v w in let vs = set s.views 0 b in let here = length_at s.views 0 v at in
      let q = quiet follows suits h.core h.ghost_state h.holds_ended s.homes s.views (parts follows suits s h) 0 v b at refl refl refl refl refl refl refl refl refl refl refl in
      let parts_after = quiet follows suits h.core h.ghost_state h.holds_ended s.homes vs q other w (joined w) there refl refl refl refl refl refl refl refl refl refl refl in
      let t = total_set retired s.views 0 v b at in let total_after = total_set retired vs other w (joined w) there in let z : retired w ≡ 0 = ap retired_at uses in let views_after = set vs other (joined w) in
      let at' : get_elem? views_after 0 ≡ some b = set_else vs other 0 (joined w) (λ e. apart (sym e)) ∙ set_here s.views 0 b here in record {
        core = h.core;
        ghost_state = h.ghost_state;
        holds_ended = h.holds_ended;
        fits = h.fits;
        narrow = h.narrow;
        words_are = h.words_are;
        deep = h.deep;
        few = parts_after.few;
        each = parts_after.each;
        later = parts_after.later;
        home = parts_after.home;
        outside = parts_after.outside;
        numbered = parts_after.numbered;
        root = λ k' e'. let same : b ≡ k' = some-injective b k' (sym at' ∙ e') in subst (Roots views_after) same record {
          user = user;
          made = length-set vs other (joined w) ∙ (length-set s.views 0 b ∙ k.made);
          back = let e = k.back in let n = length-append v.joined (joined_of w ∷ []) in let m : sum_over retired views_after ≡ length (v.joined ++ joined_of w ∷ []) = omega arith in m;
          kept = λ i g is. ⊎_elim
              (λ (u : get_elem? v.joined i ≡ some g). let a = k.kept i g u in
              let not_first : 0 ≢ a.0 = (λ z. not_both v.role user (ap (λ (y : View T). y.role) (some-injective v a.1 (sym at ∙ subst (λ (i : ℕ). get_elem? s.views i ≡ some a.1) (sym z) a.2)) ∙ a.3)) in
              let found_at : get_elem? vs a.0 ≡ some a.1 = set_else s.views 0 a.0 b (λ z. not_first (sym z)) ∙ a.2 in
              let not_other : other ≢ a.0 = (λ z. not_both w.role uses (ap (λ (y : View T). y.role) (some-injective w a.1 (sym there ∙ subst (λ (i : ℕ). get_elem? vs i ≡ some a.1) (sym z) found_at)) ∙ a.3)) in
              (a.0, a.1, set_else vs other a.0 (joined w) (λ z. not_other (sym z)) ∙ found_at, a.3, a.4, a.5, a.6, a.7, a.8, a.9))
              (λ (u : (i ≡ length v.joined) × (joined_of w ≡ g)). (other, joined w, set_here vs other (joined w) (length_at vs other w there), refl, ap (λ (y : Joined T). y.number) u.1, ap (λ (y : Joined T). y.last) u.1, ap (λ (y : Joined T). y.found) u.1, ap (λ (y : Joined T). y.ended) u.1, ap (λ (y : Joined T). y.trail) u.1, ap (λ (y : Joined T). y.actions) u.1))
              (at_end v.joined (joined_of w) g i is);
          gone = λ j z e is. ⊎_elim
              (λ (u : (j ≡ other) × (joined w ≡ z)). (length v.joined, at_last v.joined (joined_of w) (length v.joined) refl ∙ ap (λ (y : View T). some (joined_of y)) u.1))
              (λ (u : (j ≢ other) × (get_elem? vs j ≡ some z)). ⊎_elim (λ (x : (j ≡ 0) × (b ≡ z)). absurd (not_both z.role (ap (λ (y : View T). y.role) (sym x.1) ∙ user) is))
              (λ (x : (j ≢ 0) × (get_elem? s.views j ≡ some z)). let a = k.gone j z x.1 is in (a.0, at_longer v.joined (joined_of w ∷ []) a.0 (joined_of z) a.1)) (at_set s.views 0 j b z u.1)) (at_set vs other j (joined w) z e);
        };
        others = λ j z e is. ⊎_elim (λ (u : (j ≡ other) × (joined w ≡ z)). subst (λ (y : View T). (y.state.point ≡ Rest) × (y.state.depth ≡ 0)) u.1 (rests, flat))
            (λ (u : (j ≢ other) × (get_elem? vs j ≡ some z)). ⊎_elim (λ (w : (j ≡ 0) × (b ≡ z)). absurd (not_both z.role (ap (λ (y : View T). y.role) (sym w.1) ∙ user) is))
            (λ (w : (j ≢ 0) × (get_elem? s.views j ≡ some z)). h.others j z w.1 is) (at_set s.views 0 j b z u.1)) (at_set vs other j (joined w) z e);
        opened = h.opened;
        actions = h.actions;
        run = run_joined h.opened h.actions h.core s.views h.run v w at other there;
      }

  -- splitting off and joining keep the run
  pub splits_keep : (v : View T) (user : v.role ≡ User) (room : v.made + 2 ≤ v.limits.seats) (s : State (Option (Moving T)) (View T)) (h : HeldWithin follows suits Allowed s) (at : get_elem? s.views 0 ≡ some v)
      → ((splits v user room s h at).opened ≡ h.opened) × ((splits v user room s h at).actions ≡ h.actions)
  unfolding splits
  splits_keep v user room s h at = (refl, refl)

  pub joins_keep : (v w : View T) (other : ℕ) (user : v.role ≡ User) (uses : w.role ≡ User) (rests : w.state.point ≡ Rest) (flat : w.state.depth ≡ 0) (s : State (Option (Moving T)) (View T)) (h : HeldWithin follows suits Allowed s)
      (at : get_elem? s.views 0 ≡ some v) (apart : ¬ (other ≡ 0)) (there : get_elem? (set s.views 0 (with_joined v w)) other ≡ some w)
      → ((joins v w other user uses rests flat s h at apart there).opened ≡ h.opened) × ((joins v w other user uses rests flat s h at apart there).actions ≡ h.actions)
  unfolding joins
  joins_keep v w other user uses rests flat s h at apart there = (refl, refl)
