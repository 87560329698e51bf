use Rattle.lfm_mutex.specs.calls.Sight.{sight}
use Rattle.std.proofs.Common.{Some, None, rules, ◌≡◌, ◌⊎◌, ◌<◌, ℕ, List, [], ◌∷◌, ◌++◌, length-append, arith, ap, ◌∙◌, sym, refl, subst, length, vec_len, inl, inr, ⊎_elim, true}
use mathlib.Core.Option.{some, some-injective}
use lib.ListN.{get_elem?}
use mathlib.Core.Logic.{dite}
use native.Mathlib.Decide.{ℕ_discrete}
use Rattle.std.specs.List.{remove}
use Rattle.lfm_table.specs.Table.{Final, Seen}
use Rattle.lfm_table.specs.declared.rule.Moving.{Moving}
use Rattle.lfm_mutex.specs.Close.{Idle, IsFree}
use Rattle.lfm_table.specs.Reach.{Reached}
use Rattle.lfm_table.specs.Rule.{Held, joined_of}
use Rattle.lfm_table.proofs.tables.RuleKept.{length_at}
use Rattle.lfm_table.proofs.tables.OneView.{at_end}
use Rattle.lfm_protocol.specs.declared.limits.Limits.{Limits}
use Rattle.lfm_protocol.specs.declared.points.Point.TheVariants.{Rest}
use Rattle.lfm_protocol.specs.Limits.{are_in_limits}
use Rattle.lfm_protocol.specs.Step.{start}
use Rattle.lfm_laws.specs.laws.Schedules.{reached}
use Rattle.lfm_table.specs.declared.seat_view.Action.{Action}
use Rattle.lfm_table.specs.declared.seat_view.Seen.{Seen as Trailed}
use Rattle.lfm_table.specs.Actions.{KnowsRun, events_of, own_of, part_of}
use Rattle.lfm_table.proofs.tables.Actions.{no_part}
use Rattle.lfm_mutex.proofs.ends.Ends.{rest_of, seen_last, last_seen, was_last, was_there, at_end_of, longer, free_seat, ends, NoneAtEnd, Among, item_at, in_removed, not_removed, pigeons}
use Rattle.lfm_mutex.proofs.mutex.Mutex.close.Goals as goal

pub remove-requires : goal.remove-requires
remove-requires g c = let f = c.in-Some-index_of_seat_1.ensures in let r = length_at c.args.seats.items c.in-Some-index_of_seat_1.at f.0 f.1 in let n : vec_len c.args.seats ≡ length c.args.seats.items = search rules in omega arith

pub unreachable-requires : goal.unreachable-requires
unreachable-requires g c = let one = c.in_default.ensures 1 (omega arith) (let a = c.args.self.some in omega arith) in c.in_default-index_of_seat_1.ensures one.0.0 one.0.1 one.0.2 one.0.3

pub loop-seat-init : goal.loop-seat-init
loop-seat-init g c = let f = c.in-Some-index_of_seat_1.ensures in let xs = c.args.seats.items in let at = c.in-Some-index_of_seat_1.at in let p = c.remove.result in let s = g.P.Holder.seat_of p in let here = length_at xs at f.0 f.1 in
    let item : get_elem? xs at ≡ some p = item_at xs xs at p here c.remove.ensures.value refl in let same : f.0 ≡ p = some-injective f.0 p (sym f.1 ∙ item) in
    let first : s.table_seat.number ≡ 1 = ap (λ z. (g.P.Holder.seat_of z).table_seat.number) (sym same) ∙ f.2 in let stand = c.in_default.ensures in let lim = c.args.self.some in
    let idle0 : Idle (sight s) = (stand 1 (omega arith) (omega arith)).1 at p item first in let idle : (s.state.depth ≡ 0) × (s.state.point ≡ Rest) = (idle0.0, rest_of s.state.point idle0.1) in let free = free_seat s.table_seat.number s.table_seat.limits s.state s.table_seat.place.me s.table_seat.moving s.seated s.became idle.0 idle.1 in
    let viewed : s.table_seat.number ≡ 1 = first in let e = c.into_place-root.ensures in let belongs = (c.requires.belongs at p item).0 in record {
      table = ap (λ p. p.table_id) e ∙ belongs;
      root = (ap (λ p. p.id) e ∙ s.rooted.first viewed, ap (λ p. p.me.0.role) e ∙ free.0, ap (λ p. p.me.1) e ∙ free.1, ap (λ p. p.me.0.state.point) e ∙ free.2, ap (λ p. p.me.0.state.depth) e ∙ free.3);
      limits = ap (λ p. p.me.0.limits) e ∙ (s.seated.limits_are ∙ (c.requires.belongs at p item).1);
      counts = let m = s.rooted.made viewed in let wide = s.rooted.wide in let b = ap (λ p. p.me.0.made) e in let t = ap (λ t. t.words) belongs in let w = c.args.self.words in let l = c.remove.ensures.len in let n : vec_len c.args.seats ≡ length xs = search rules in
          let pg = pigeons (λ s. (g.P.Holder.seat_of s).table_seat.number) xs c.args.self.limits.seats (λ k p q. (stand k p q).0) in omega arith;
      all = let m = s.rooted.made viewed in let wide = s.rooted.wide in let b = ap (λ p. p.me.0.made) e in let t = ap (λ t. t.words) belongs in let w = c.args.self.words in let l = c.remove.ensures.len in let n : vec_len c.args.seats ≡ length xs = search rules in
          let k = s.rooted.back viewed in let gl = ap (λ p. length p.me.0.joined) e in (omega arith, omega arith);
      seats = λ j z q. let y = g.P.Holder.seat_of z in let old = in_removed xs at j z (ap (λ l. get_elem? l j) (sym c.remove.ensures.items) ∙ q) in (
        (c.requires.belongs old.0 z old.1).0,
        (let h = (let lo = y.rooted.low in let hi = y.rooted.high in let wide = y.rooted.wide in let t = ap (λ t. t.words) (c.requires.belongs old.0 z old.1).0 in let w = c.args.self.words in (stand y.table_seat.number (omega arith) (omega arith)).1 old.0 z old.1 refl) in h.0),
        (let h = (let lo = y.rooted.low in let hi = y.rooted.high in let wide = y.rooted.wide in let t = ap (λ t. t.words) (c.requires.belongs old.0 z old.1).0 in let w = c.args.self.words in (stand y.table_seat.number (omega arith) (omega arith)).1 old.0 z old.1 refl) in rest_of y.state.point h.1),
      );
      each = λ j z q. ⊎_elim
          (λ (u : j ≡ at). let is : p ≡ z = some-injective p z (sym item ∙ (ap (get_elem? xs) (sym u) ∙ q)) in inr (inr (ap (λ p. p.me.0.last) e ∙ ap (λ z. (g.P.Holder.seat_of z).table_seat.place.me.0.last) is, ap (λ p. p.me.0.number) e ∙ ap (λ z. (g.P.Holder.seat_of z).table_seat.place.me.0.number) is, ap (λ p. p.me.0.last_found) e ∙ ap (λ z. (g.P.Holder.seat_of z).table_seat.place.me.0.last_found) is, ap (λ p. p.me.0.ended) e ∙ ap (λ z. (g.P.Holder.seat_of z).table_seat.place.me.0.ended) is, ap (λ p. p.me.0.trail) e ∙ ap (λ z. (g.P.Holder.seat_of z).table_seat.place.me.0.trail) is, ap (λ p. p.me.0.actions) e ∙ ap (λ z. (g.P.Holder.seat_of z).table_seat.place.me.0.actions) is)))
          (λ (u : (i : ℕ) × (get_elem? (remove xs at) i ≡ some z)). inl (u.0, ap (λ l. get_elem? l u.0) c.remove.ensures.items ∙ u.1)) (not_removed xs at j z q);
      still = λ j z q. in_removed xs at j z (ap (λ l. get_elem? l j) (sym c.remove.ensures.items) ∙ q);
      own = (at, p, item, sym (ap (λ p. p.me.0.last) e), sym (ap (λ p. p.me.0.last_found) e), sym (ap (λ p. p.me.0.number) e), sym (ap (λ p. p.me.0.ended) e));
      only = λ j z q. absurd (let k = s.rooted.back viewed in let gl = ap (λ p. length p.me.0.joined) e in let r = length_at _ j z q in omega arith);
    }

pub retire-requires-clause-table : goal.retire-requires-clause-table
retire-requires-clause-table g c κs within = let i = c.loop-seat.invariant in (i.table, ap (λ p. p.table_id) c.into_place-place.ensures ∙ (i.seats (length c.pop.new.self.items) c.in-Some-pop.seat (was_last _ _ _ c.in-Some-pop.ensures.items)).0, search rules)

pub retire-requires-clause-free : goal.retire-requires-clause-free
retire-requires-clause-free g c κs within = let i = c.loop-seat.invariant in let s = c.in-Some-pop.seat in let h = i.seats (length c.pop.new.self.items) s (was_last _ _ _ c.in-Some-pop.ensures.items) in
    let y = g.P.Holder.seat_of s in let f = free_seat y.table_seat.number y.table_seat.limits y.state y.table_seat.place.me y.table_seat.moving y.seated y.became h.1 h.2 in let e = c.into_place-place.ensures in (ap (λ p. p.me.0.role) e ∙ f.0, ap (λ p. p.me.1) e ∙ f.1, ap (λ p. p.me.0.state.point) e ∙ f.2, ap (λ p. p.me.0.state.depth) e ∙ f.3)

pub loop-seat-preserved : goal.loop-seat-preserved
loop-seat-preserved g c = let i = c.loop-seat.invariant in let r = c.retire.ensures in let old = c.loop-seat.root.me.0.joined in let s = c.in-Some-pop.seat in
    let joined : c.retire.new.root.me.0.joined ≡ old ++ joined_of (g.P.Holder.seat_of s).table_seat.place.me.0 ∷ [] = ap (λ m. m.0.joined) r.joined ∙ ap (λ p. old ++ joined_of p.me.0 ∷ []) c.into_place-place.ensures in record {
      table = r.table.0 ∙ i.table;
      root = (r.table.1 ∙ i.root.0, ap (λ m. m.0.role) r.joined ∙ i.root.1, ap (λ m. m.1) r.joined ∙ i.root.2, ap (λ m. m.0.state.point) r.joined ∙ i.root.3, ap (λ m. m.0.state.depth) r.joined ∙ i.root.4);
      limits = ap (λ m. m.0.limits) r.joined ∙ i.limits;
      counts = let a = ap (λ m. m.0.made) r.joined in let b = ap (λ l. length l) joined in let d = c.in-Some-pop.ensures.len in let n = i.counts in let k = length-append old (joined_of (g.P.Holder.seat_of s).table_seat.place.me.0 ∷ []) in omega arith;
      all = let a = ap (λ m. m.0.made) r.joined in let b = ap (λ l. length l) joined in let d = c.in-Some-pop.ensures.len in let n = i.all in let k = length-append old (joined_of (g.P.Holder.seat_of s).table_seat.place.me.0 ∷ []) in (omega arith, omega arith);
      seats = λ j s e. i.seats j s (was_there _ _ _ _ j c.in-Some-pop.ensures.items e);
      each = λ j z q. ⊎_elim
          (λ (u : (i : ℕ) × (get_elem? c.loop-seat.seats.items i ≡ some z)). ⊎_elim (λ t. inl (u.0, t)) (λ t. inr (inl (length old, ap (λ l. get_elem? l (length old)) joined ∙ (at_end_of old (joined_of (g.P.Holder.seat_of s).table_seat.place.me.0) ∙ ap (λ w. some (joined_of (g.P.Holder.seat_of w).table_seat.place.me.0)) t.1))))
          (at_end c.pop.new.self.items s z u.0 (ap (λ l. get_elem? l u.0) (sym c.in-Some-pop.ensures.items) ∙ u.1)))
          (λ u. ⊎_elim (λ t. inr (inl (t.0, ap (λ l. get_elem? l t.0) joined ∙ longer old (joined_of (g.P.Holder.seat_of s).table_seat.place.me.0) t.0 (joined_of (g.P.Holder.seat_of z).table_seat.place.me.0) t.1))) (λ t. inr (inr (ap (λ m. m.0.last) r.joined ∙ t.0, ap (λ m. m.0.number) r.joined ∙ t.1, ap (λ m. m.0.last_found) r.joined ∙ t.2, ap (λ m. m.0.ended) r.joined ∙ t.3, ap (λ m. m.0.trail) r.joined ∙ t.4, ap (λ m. m.0.actions) r.joined ∙ t.5))) u) (i.each j z q);
      still = λ j z q. i.still j z (was_there _ _ _ _ j c.in-Some-pop.ensures.items q);
      own = (i.own.0, i.own.1, i.own.2, i.own.3 ∙ sym (ap (λ m. m.0.last) r.joined), i.own.4 ∙ sym (ap (λ m. m.0.last_found) r.joined), i.own.5 ∙ sym (ap (λ m. m.0.number) r.joined), i.own.6 ∙ sym (ap (λ m. m.0.ended) r.joined));
      only = λ j z q. ⊎_elim (λ u. i.only j z u)
          (λ u. let o = i.still (length c.pop.new.self.items) s (was_last _ _ _ c.in-Some-pop.ensures.items) in (o.0, s, o.1, ap (λ y. y.last) u.1, ap (λ y. y.found) u.1, ap (λ y. y.number) u.1, ap (λ y. y.ended) u.1))
          (at_end old (joined_of (g.P.Holder.seat_of s).table_seat.place.me.0) z j (ap (λ l. get_elem? l j) (sym joined) ∙ q));
    }

pub take_slot-requires-clause-free : goal.take_slot-requires-clause-free
take_slot-requires-clause-free g c κs within = let i = c.loop-seat.invariant in let v = c.loop-seat.root.me.0 in let n = c.in_default-pop.ensures.cases in let a = i.counts in let z = n.0 in
    let end : Final (Seen (Held g.T.Kept.follows g.T.Kept.fits) 0 v) c.close_with.result.words c.close_with.result.slots = subst (λ k. Final (Seen (Held g.T.Kept.follows g.T.Kept.fits) k v) c.close_with.result.words c.close_with.result.slots) i.root.0 c.close_with.ensures.values in
    let e = ends g.T.Kept.follows g.T.Kept.fits v c.close_with.result.words c.close_with.result.slots (omega arith) i.root.3 i.root.4 end in
    e.4

pub take_slot-requires-clause-slot : goal.take_slot-requires-clause-slot
take_slot-requires-clause-slot g c κs within = c.close_with.ensures.counts.1 ∙ c.args.self.slots

pub unreachable-requires-in_default-take_slot : goal.unreachable-requires-in_default-take_slot
unreachable-requires-in_default-take_slot g c = let i = c.loop-seat.invariant in let v = c.loop-seat.root.me.0 in let n = c.in_default-pop.ensures.cases in let a = i.counts in let z = n.0 in
    let end : Final (Seen (Held g.T.Kept.follows g.T.Kept.fits) 0 v) c.close_with.result.words c.close_with.result.slots = subst (λ k. Final (Seen (Held g.T.Kept.follows g.T.Kept.fits) k v) c.close_with.result.words c.close_with.result.slots) i.root.0 c.close_with.ensures.values in
    let e = ends g.T.Kept.follows g.T.Kept.fits v c.close_with.result.words c.close_with.result.slots (omega arith) i.root.3 i.root.4 end in
    let was = e.1 in let got = c.take_slot.ensures in let none = c.in_default-take_slot.is in cc

pub returns-clause-sized : goal.returns-clause-sized
returns-clause-sized g c = let i = c.loop-seat.invariant in let v = c.loop-seat.root.me.0 in let n = c.in_default-pop.ensures.cases in let a = i.counts in let z = n.0 in
    let end : Final (Seen (Held g.T.Kept.follows g.T.Kept.fits) 0 v) c.close_with.result.words c.close_with.result.slots = subst (λ k. Final (Seen (Held g.T.Kept.follows g.T.Kept.fits) k v) c.close_with.result.words c.close_with.result.slots) i.root.0 c.close_with.ensures.values in
    let e = ends g.T.Kept.follows g.T.Kept.fits v c.close_with.result.words c.close_with.result.slots (omega arith) i.root.3 i.root.4 end in
    let few = e.3 in let all = i.all in let xs = c.args.seats.items in let m : vec_len c.args.seats ≡ length xs = search rules in let p = pigeons (λ s. (g.P.Holder.seat_of s).table_seat.number) xs c.args.self.limits.seats (λ k p q. (c.in_default.ensures k p q).0) in omega arith

pub returns-clause-last : goal.returns-clause-last
returns-clause-last g c =
    let i = c.loop-seat.invariant in let v = c.loop-seat.root.me.0 in let n = c.in_default-pop.ensures.cases in let a = i.counts in let z = n.0 in
    let end : Final (Seen (Held g.T.Kept.follows g.T.Kept.fits) 0 v) c.close_with.result.words c.close_with.result.slots = subst (λ k. Final (Seen (Held g.T.Kept.follows g.T.Kept.fits) k v) c.close_with.result.words c.close_with.result.slots) i.root.0 c.close_with.ensures.values in
    let e = ends g.T.Kept.follows g.T.Kept.fits v c.close_with.result.words c.close_with.result.slots (omega arith) i.root.3 i.root.4 end in
    let was = e.1 in let got = c.take_slot.ensures in let some_it = c.in-Some-take_slot.is in let whole : e.0 ≡ c.in-Some-take_slot.moving = cc in let same : e.0.value ≡ c.into_value.result = ap (λ (x : Moving g.row.T.Denot). x.value) whole ∙ sym c.into_value.ensures in
    let from : (j : ℕ) × (s : _) × (get_elem? c.args.seats.items j ≡ some s) × ((g.P.Holder.seat_of s).table_seat.place.me.0.last ≡ Some e.0.value) × ((g.P.Holder.seat_of s).table_seat.place.me.0.last_found ≡ None → NoneAtEnd g.T.Kept.follows g.T.Kept.fits v) =
    ⊎_elim (λ t. (i.own.0, i.own.1, i.own.2, i.own.3 ∙ t.0, λ none. t.1 (sym i.own.4 ∙ none))) (λ t. let o = i.only t.0 t.1 t.2 in (o.0, o.1, o.2, o.3 ∙ t.3, λ none. t.4 (sym o.4 ∙ none))) e.6 in
    let y = g.P.Holder.seat_of from.1 in let b = c.requires.belongs from.0 from.1 from.2 in
    let idle = (let lo = y.rooted.low in let hi = y.rooted.high in let same = ap (λ x. x.seats) b.1 in (c.in_default.ensures y.table_seat.number lo (omega (arith, hi, same))).1 from.0 from.1 from.2 refl) in (
      from.0,
      from.1,
      from.2,
      last_seen y.state.depth y.table_seat.place.me.0.last y.table_seat.place.me.0.found idle.0 ∙ (from.3 ∙ ap Some same),
      λ none j s at.
          let none_end = from.4 (sym (last_seen y.state.depth y.table_seat.place.me.0.last_found y.table_seat.place.me.0.found idle.0) ∙ none) in
          let q = g.P.Holder.seat_of s in let belongs = c.requires.belongs j s at in
          let idle2 = (let lo = q.rooted.low in let hi = q.rooted.high in let same = ap (λ x. x.seats) belongs.1 in (c.in_default.ensures q.table_seat.number lo (omega (arith, hi, same))).1 j s at refl) in
          last_seen q.state.depth q.table_seat.place.me.0.last_found q.table_seat.place.me.0.found idle2.0 ∙ ⊎_elim
          (λ u. absurd (let r = length_at c.loop-seat.seats.items u.0 s u.1 in let k : vec_len c.loop-seat.seats ≡ length c.loop-seat.seats.items = search rules in omega arith))
          (λ u. ⊎_elim (λ t. none_end.1 t.0 (joined_of (g.P.Holder.seat_of s).table_seat.place.me.0) t.1) (λ t. sym t.2 ∙ none_end.0) u) (i.each j s at),
    )

pub returns-clause-latest : goal.returns-clause-latest
returns-clause-latest g c =
    let i = c.loop-seat.invariant in let v = c.loop-seat.root.me.0 in let n = c.in_default-pop.ensures.cases in let a = i.counts in let z = n.0 in
    let end : Final (Seen (Held g.T.Kept.follows g.T.Kept.fits) 0 v) c.close_with.result.words c.close_with.result.slots = subst (λ k. Final (Seen (Held g.T.Kept.follows g.T.Kept.fits) k v) c.close_with.result.words c.close_with.result.slots) i.root.0 c.close_with.ensures.values in
    let e = ends g.T.Kept.follows g.T.Kept.fits v c.close_with.result.words c.close_with.result.slots (omega arith) i.root.3 i.root.4 end in
    let was = e.1 in let got = c.take_slot.ensures in let some_it = c.in-Some-take_slot.is in let whole : e.0 ≡ c.in-Some-take_slot.moving = cc in let same : e.0.value ≡ c.into_value.result = ap (λ (x : Moving g.row.T.Denot). x.value) whole ∙ sym c.into_value.ensures in
    let latest = e.7 in
    let among : (j : ℕ) (s : _) → get_elem? c.args.seats.items j ≡ some s → Among g.T.Kept.follows g.T.Kept.fits v (g.P.Holder.seat_of s).table_seat.place.me.0.number (g.P.Holder.seat_of s).table_seat.place.me.0.last (g.P.Holder.seat_of s).table_seat.place.me.0.ended =
    (λ j s at. ⊎_elim
    (λ u. absurd (let r = length_at c.loop-seat.seats.items u.0 s u.1 in let k : vec_len c.loop-seat.seats ≡ length c.loop-seat.seats.items = search rules in omega arith))
    (λ u. ⊎_elim (λ t. inr (t.0, joined_of (g.P.Holder.seat_of s).table_seat.place.me.0, t.1, refl, refl, refl)) (λ t. inl (t.1, t.0, t.3)) u) (i.each j s at)) in
    let left : (j : ℕ) (s : _) (w : g.row.T.Denot) → get_elem? c.args.seats.items j ≡ some s → (g.P.Holder.seat_of s).table_seat.place.me.0.last ≡ Some w → (sight (g.P.Holder.seat_of s)).last ≡ Some w =
    (λ j s w at is. let y = g.P.Holder.seat_of s in let b = c.requires.belongs j s at in
    let idle = (let lo = y.rooted.low in let hi = y.rooted.high in let same = ap (λ x. x.seats) b.1 in (c.in_default.ensures y.table_seat.number lo (omega (arith, hi, same))).1 j s at refl) in
    last_seen y.state.depth y.table_seat.place.me.0.last y.table_seat.place.me.0.found idle.0 ∙ is) in
    let from : (j : ℕ) × (s : _) × (get_elem? c.args.seats.items j ≡ some s) × ((g.P.Holder.seat_of s).table_seat.place.me.0.last ≡ Some e.0.value) × ((g.P.Holder.seat_of s).table_seat.place.me.0.number ≡ latest.seat) × ((g.P.Holder.seat_of s).table_seat.place.me.0.ended ≡ latest.count) =
    ⊎_elim (λ t. (i.own.0, i.own.1, i.own.2, i.own.3 ∙ t.1, i.own.5 ∙ t.0, i.own.6 ∙ t.2)) (λ t. let o = i.only t.0 t.1 t.2 in (o.0, o.1, o.2, o.3 ∙ t.4, o.5 ∙ t.3, o.6 ∙ t.5)) latest.there in
    dite (ℕ_discrete latest.count 0)
    (λ none. inr (λ j s at. let q = latest.never (g.P.Holder.seat_of s).table_seat.place.me.0.number (g.P.Holder.seat_of s).table_seat.place.me.0.last (g.P.Holder.seat_of s).table_seat.place.me.0.ended (among j s at) none in (q.0, left j s c.into_value.result at (q.1 ∙ ap Some same))))
    (λ some. let ended = from.5 in inl (
      from.0,
      from.1,
      from.2,
      left from.0 from.1 c.into_value.result from.2 (from.3 ∙ ap Some same),
      omega (arith, some, ended),
      λ j s at other.
          let less = latest.later (g.P.Holder.seat_of s).table_seat.place.me.0.number (g.P.Holder.seat_of s).table_seat.place.me.0.last (g.P.Holder.seat_of s).table_seat.place.me.0.ended (among j s at)
          (λ q. other (sym (g.P.Holder.seat_of s).seated.named ∙ (q ∙ (sym from.4 ∙ (g.P.Holder.seat_of from.1).seated.named)))) (omega (arith, some)) in
          omega (arith, less, ended),
    ))

pub returns-clause-reached : goal.returns-clause-reached
returns-clause-reached g c j s l at seen =
    let y = g.P.Holder.seat_of s in let b = c.requires.belongs j s at in
    let idle = (let lo = y.rooted.low in let hi = y.rooted.high in let same = ap (λ x. x.seats) b.1 in (c.in_default.ensures y.table_seat.number lo (omega (arith, hi, same))).1 j s at refl) in
    let is : y.table_seat.place.me.0.last ≡ Some l = seen_last y.state.depth y.table_seat.place.me.0.last y.table_seat.place.me.0.found (Some l) idle.0 seen in
    let i = c.loop-seat.invariant in let v = c.loop-seat.root.me.0 in let n = c.in_default-pop.ensures.cases in let a = i.counts in let z = n.0 in
    let end : Final (Seen (Held g.T.Kept.follows g.T.Kept.fits) 0 v) c.close_with.result.words c.close_with.result.slots = subst (λ k. Final (Seen (Held g.T.Kept.follows g.T.Kept.fits) k v) c.close_with.result.words c.close_with.result.slots) i.root.0 c.close_with.ensures.values in
    let e = ends g.T.Kept.follows g.T.Kept.fits v c.close_with.result.words c.close_with.result.slots (omega arith) i.root.3 i.root.4 end in
    let was = e.1 in let got = c.take_slot.ensures in let some_it = c.in-Some-take_slot.is in let whole : e.0 ≡ c.in-Some-take_slot.moving = cc in let same : e.0.value ≡ c.into_value.result = ap (λ (x : Moving g.row.T.Denot). x.value) whole ∙ sym c.into_value.ensures in let named = y.seated.named in let limited = i.limits ∙ sym (y.seated.limits_are ∙ b.1) in
    subst (λ (t : Limits × ℕ × g.row.T.Denot). Reached g.T.Kept.follows t.0.seats t.1 l t.2) (λ i. (limited i, named i, same i)) (⊎_elim
    (λ u. absurd (let r = length_at c.loop-seat.seats.items u.0 s u.1 in let k : vec_len c.loop-seat.seats ≡ length c.loop-seat.seats.items = search rules in omega arith))
    (λ u. ⊎_elim (λ t. e.2.1 t.0 (joined_of (g.P.Holder.seat_of s).table_seat.place.me.0) l t.1 is) (λ t. subst (λ (n : ℕ). Reached g.T.Kept.follows v.limits.seats n l e.0.value) t.1 (e.2.0 l (t.0 ∙ is))) u) (i.each j s at))

pub returns-clause-run : goal.returns-clause-run
returns-clause-run g c =
    let i = c.loop-seat.invariant in let v = c.loop-seat.root.me.0 in let n = c.in_default-pop.ensures.cases in let a = i.counts in let z = n.0 in
    let end : Final (Seen (Held g.T.Kept.follows g.T.Kept.fits) 0 v) c.close_with.result.words c.close_with.result.slots = subst (λ k. Final (Seen (Held g.T.Kept.follows g.T.Kept.fits) k v) c.close_with.result.words c.close_with.result.slots) i.root.0 c.close_with.ensures.values in
    let e = ends g.T.Kept.follows g.T.Kept.fits v c.close_with.result.words c.close_with.result.slots (omega arith) i.root.3 i.root.4 end in
    let run = e.8 in record {
      actions = run.actions;
      allowed = subst (λ (l : Limits). are_in_limits l.seats l.budget ≡ true) i.limits run.allowed;
      free = subst (λ (l : Limits). IsFree (reached l (events_of run.actions))) i.limits run.free;
      others = λ t out. no_part (start c.args.self.limits) t run.actions (subst (λ (l : Limits). (t : ℕ) → (t ≡ 0) ⊎ (l.seats < t) → own_of t run.actions ≡ []) i.limits run.others t out);
      nobody_else = subst (λ (l : Limits). (t : ℕ) → (t ≡ 0) ⊎ (l.seats < t) → own_of t run.actions ≡ []) i.limits run.others;
      known = λ j s at.
          let y = g.P.Holder.seat_of s in
          let known : KnowsRun v.limits run.actions y.table_seat.place.me.0.number y.table_seat.place.me.0.actions y.table_seat.place.me.0.trail = ⊎_elim
          (λ u. absurd (let r = length_at c.loop-seat.seats.items u.0 s u.1 in let k : vec_len c.loop-seat.seats ≡ length c.loop-seat.seats.items = search rules in omega arith))
          (λ u. ⊎_elim (λ t. run.joined_known t.0 (joined_of (g.P.Holder.seat_of s).table_seat.place.me.0) t.1)
          (λ t. subst (λ (k : ℕ × List Action × List Trailed). KnowsRun v.limits run.actions k.0 k.1 k.2) (λ q. (t.1 q, t.5 q, t.4 q)) run.own_known) u) (i.each j s at) in
          subst (λ (k : Limits × ℕ). KnowsRun k.0 run.actions k.1 y.table_seat.place.me.0.actions y.table_seat.place.me.0.trail) (λ q. (i.limits q, y.seated.named q)) known;
      trails = λ j s at.
          let y = g.P.Holder.seat_of s in
          let part : y.table_seat.place.me.0.trail ≡ part_of (start v.limits) y.table_seat.place.me.0.number run.actions = ⊎_elim
          (λ u. absurd (let r = length_at c.loop-seat.seats.items u.0 s u.1 in let k : vec_len c.loop-seat.seats ≡ length c.loop-seat.seats.items = search rules in omega arith))
          (λ u. ⊎_elim (λ t. run.joined t.0 (joined_of (g.P.Holder.seat_of s).table_seat.place.me.0) t.1) (λ t. sym t.4 ∙ (run.own ∙ ap (λ (k : ℕ). part_of (start v.limits) k run.actions) t.1)) u) (i.each j s at) in
          part ∙ (λ q. part_of (start (i.limits q)) (y.seated.named q) run.actions);
    }
