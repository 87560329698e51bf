use Rattle.std.proofs.Common.{rules, ◌≡◌, ℕ, ◌+◌, ap, ◌∙◌, sym, refl, subst, arith, length, true≢false}
use Rattle.std.specs.Prelude.{true}
use Rattle.lfm_table.specs.Table.{Splits}
use Rattle.lfm_protocol.specs.declared.limits.Limits.{Limits}
use Rattle.lfm_protocol.specs.Limits.{are_in_limits}
use Rattle.lfm_protocol.specs.Seats.{absent}
use Rattle.lfm_mutex.specs.Fresh.{Fresh}
use Rattle.lfm_table.specs.Rule.{Held, with_split, split_view}
use Rattle.lfm_mutex.proofs.Lists.{and_last, and_first}
use Rattle.lfm_table.proofs.tables.FreshSeats.{fresh_seated, fresh_became, fresh_ready}
use Rattle.lfm_table.proofs.tables.SplitsAndJoins.{splits}
use Rattle.lfm_table.proofs.tables.Starts.{limit_facts}
use Rattle.lfm_mutex.proofs.runs.SightParts.{fresh_sight}
use Rattle.lfm_mutex.proofs.mutex.Mutex.new.Goals as goal

pub split_seat-place-requires-clause-allowed : goal.split_seat-place-requires-clause-allowed
split_seat-place-requires-clause-allowed g c κs within = let k = c.loop-i.invariant in let v = c.loop-i.root.me.0 in let t = c.loop-i-test.true in let m = k.made in let s = ap (λ l. l.seats) k.limits_are in
    subst (λ i. Splits (Held g.T.Kept.follows g.T.Kept.fits) i v (with_split v) (split_view v)) (sym k.id) (splits g.T.Kept.follows g.T.Kept.fits v k.role (omega arith))

pub invariant_of-push_reserved : goal.invariant_of-push_reserved
invariant_of-push_reserved g c = let k = c.loop-i.invariant in let r = c.split_seat-place.result in let l : Limits = record { seats = c.args.seats; budget = c.args.budget } in
    let cut = c.split_seat-place.ensures in let me = cut.split.1 in let t = c.loop-i-test.true in let m = k.made in
    let allowed : are_in_limits c.args.seats c.args.budget ≡ true = search rules in
    let facts = limit_facts c.args.seats c.args.budget allowed in
    let named : r.me.0.number ≡ c.loop-i.i + 1 = (let e = ap (λ z. z.0.number) me in omega arith) in
    let sized : r.me.0.limits ≡ l = ap (λ z. z.0.limits) me ∙ k.limits_are in
    record {
      seated = fresh_seated r.table_id.words r.id (c.loop-i.i + 1) l absent r.me refl (ap (λ z. z.0.role) me) named sized (ap (λ z. z.1) me) (ap (λ z. z.0.state) me);
      became = fresh_became r.table_id.words r.id (c.loop-i.i + 1) l absent r.me refl (ap (λ z. z.0.role) me) named sized (ap (λ z. z.1) me) (ap (λ z. z.0.state) me);
      ready = fresh_ready r.table_id.words r.id (c.loop-i.i + 1) l absent r.me refl (ap (λ z. z.0.role) me) named sized (ap (λ z. z.1) me) (ap (λ z. z.0.state) me) (omega arith) (omega arith);
      rooted = record {
        low = omega arith;
        high = omega arith;
        few = facts.1;
        wide = search rules;
        first = λ e. absurd (omega arith);
        made = λ e. absurd (omega arith);
        back = λ e. absurd (omega arith);
      };
    }

pub loop-i-preserved : goal.loop-i-preserved
loop-i-preserved g c = let v = c.loop-i.invariant in let cut = c.split_seat-place.ensures in let me = cut.split.0 in let n = v.made in let m = v.room.0 in let l : Limits = record { seats = c.args.seats; budget = c.args.budget } in record {
  table = cut.table.0 ∙ v.table;
  id = cut.table.1 ∙ v.id;
  role = ap (λ m. m.0.role) me ∙ v.role;
  number = ap (λ m. m.0.number) me ∙ v.number;
  limits_are = ap (λ m. m.0.limits) me ∙ v.limits_are;
  hand = ap (λ m. m.1) me ∙ v.hand;
  made = let a = ap (λ m. m.0.made) me in omega arith;
  joined = ap (λ m. length m.0.joined) me ∙ v.joined;
  opening = ap (λ m. m.0.opening) me ∙ v.opening;
  last = ap (λ m. m.0.last) me ∙ v.last;
  found = ap (λ m. m.0.last_found) me ∙ v.found;
  ended = ap (λ m. m.0.ended) me ∙ v.ended;
  trail = ap (λ m. m.0.trail) me ∙ v.trail;
  actions = ap (λ m. m.0.actions) me ∙ v.actions;
  state = ap (λ m. m.0.state) me ∙ v.state;
  room = search rules;
  fresh = and_last (λ j s. (s.table_seat.place.table_id ≡ c.in-Ok-new_table.laid.0.table_id) × Fresh c.args.value (j + 2) s.table_seat.number s.table_seat.limits s.state s.table_seat.place.me s.table_seat.moving l) c.loop-i.all.items c.push_reserved.new.self.items _ c.push_reserved.ensures.items
      (cut.table.2 ∙ v.table, ((let q : c.loop-i.i + 1 ≡ length c.loop-i.all.items + 2 = omega arith in q), refl, refl, refl, ap (λ m. m.0.trail) cut.split.1, ap (λ m. m.0.last) cut.split.1 ∙ v.opening, ap (λ m. m.0.last_found) cut.split.1, ap (λ m. m.0.limits) cut.split.1 ∙ v.limits_are, ap (λ m. m.0.ended) cut.split.1, ap (λ m. m.0.actions) cut.split.1)) v.fresh;
}

pub invariant_of-first : goal.invariant_of-first
invariant_of-first g c = let k = c.loop-i.invariant in let r = c.loop-i.root in let l : Limits = record { seats = c.args.seats; budget = c.args.budget } in
    let allowed : are_in_limits c.args.seats c.args.budget ≡ true = search rules in
    let facts = limit_facts c.args.seats c.args.budget allowed in
    let t = c.loop-i-test.false in let m = k.made in let some = facts.0 in
    record {
      seated = fresh_seated r.table_id.words r.id 1 l absent r.me refl k.role k.number k.limits_are k.hand k.state;
      became = fresh_became r.table_id.words r.id 1 l absent r.me refl k.role k.number k.limits_are k.hand k.state;
      ready = fresh_ready r.table_id.words r.id 1 l absent r.me refl k.role k.number k.limits_are k.hand k.state (omega arith) (omega arith);
      rooted = record {
        low = omega arith;
        high = omega arith;
        few = facts.1;
        wide = search rules;
        first = λ e. k.id;
        made = λ e. let n = c.loop-i.auto.i-end (omega (arith, some)) in omega (arith, m, t, n);
        back = λ e. k.joined;
      };
    }

pub returns-clause-seats : goal.returns-clause-seats
returns-clause-seats g c = let v = c.loop-i.invariant in let l : Limits = record { seats = c.args.seats; budget = c.args.budget } in (
  search rules,
  λ j s e. let f = (and_first (λ j s. (s.table_seat.place.table_id ≡ c.in-Ok-new_table.laid.0.table_id) × Fresh c.args.value (j + 1) s.table_seat.number s.table_seat.limits s.state s.table_seat.place.me s.table_seat.moving l) c.loop-i.all.items _ _ c.in-Ok-insert.ensures.items
      (v.table, (refl, refl, refl, refl, v.trail, v.last, v.found, v.limits_are, v.ended, v.actions)) (λ j y e. subst (λ (n : ℕ). (y.table_seat.place.table_id ≡ c.in-Ok-new_table.laid.0.table_id) × Fresh c.args.value n y.table_seat.number y.table_seat.limits y.state y.table_seat.place.me y.table_seat.moving l) (let q : j + 2 ≡ j + 1 + 1 = omega arith in q) (v.fresh j y e))) j s e in
      ((f.0, f.1.1), fresh_sight c.args.value (j + 1) s.table_seat.number s.table_seat.limits s.state s.table_seat.place.me s.table_seat.moving l f.1),
)

pub returns-clause-past : goal.returns-clause-past
returns-clause-past g c = let v = c.loop-i.invariant in let l : Limits = record { seats = c.args.seats; budget = c.args.budget } in
    λ j s e. (and_first (λ j s. (s.table_seat.place.table_id ≡ c.in-Ok-new_table.laid.0.table_id) × Fresh c.args.value (j + 1) s.table_seat.number s.table_seat.limits s.state s.table_seat.place.me s.table_seat.moving l) c.loop-i.all.items _ _ c.in-Ok-insert.ensures.items
    (v.table, (refl, refl, refl, refl, v.trail, v.last, v.found, v.limits_are, v.ended, v.actions)) (λ j y e. subst (λ (n : ℕ). (y.table_seat.place.table_id ≡ c.in-Ok-new_table.laid.0.table_id) × Fresh c.args.value n y.table_seat.number y.table_seat.limits y.state y.table_seat.place.me y.table_seat.moving l) (let q : j + 2 ≡ j + 1 + 1 = omega arith in q) (v.fresh j y e)) j s e).1.9

pub loop-i-init : goal.loop-i-init
loop-i-init g c = search rules

pub returns-clause-belongs : goal.returns-clause-belongs
returns-clause-belongs g c = λ j s at. ((returns-clause-seats g c).1 j s at).0

pub returns-then-not-are_allowed-clause-memory : goal.returns-then-not-are_allowed-clause-memory
returns-then-not-are_allowed-clause-memory g c = λ allowed. absurd (true≢false (sym allowed ∙ sym c.if-not-are_allowed.ensures))
