use Rattle.std.proofs.Common.{◌≡◌, ℕ, length, refl, ◌∙◌, ap, subst, arith}
use mathlib.Core.Option.{some}
use lib.ListN.{get_elem?}
use Rattle.std.proofs.lemmas.Iterator.{YieldsList-from_zip}
use Rattle.std.proofs.lemmas.Iterator.Adapters.{YieldsList-from_vec}
use Rattle.std.proofs.lemmas.Iterator.Consumers.{YieldsList-end, YieldsList-turn}
use Rattle.std.proofs.lemmas.List.{length_push}
use Rattle.lfm_monitor.specs.declared.pass.Pass.{Pass}
use Rattle.lfm_monitor.proofs.Places.{each_more, length_zips, stand_all}
use Rattle.lfm_monitor.proofs.open.with_seats.Goals as goal

pub invariant_of-push_reserved : goal.invariant_of-push_reserved
invariant_of-push_reserved g c = let s = c.into_iter-seat-iterator.result in let same = c.into_iter-seat-iterator.ensures.into_iter_gives in let z = c.zip-seat-items.ensures in let y = c.zip.ensures in let f = c.into_iter.ensures in
    let xs = c.args.seats.items in let ys = c.args.cond_seats.items in let zs = c.args.plain_seats.items in
    let pairs = YieldsList-from_zip {s = s.a} (YieldsList-from_vec {s = s.a.a} xs (ap (λ z. z.a.a.rest.items) same ∙ (ap (λ i. i.a.rest.items) z.first ∙ (ap (λ i. i.rest.items) y.first ∙ f.rest))) (ap (λ z. z.a.a.rest.len) same ∙ (ap (λ i. i.a.rest.len) z.first ∙ (ap (λ i. i.rest.len) y.first ∙ (f.len ∙ c.args.seats.ok.0)))))
    (YieldsList-from_vec {s = s.a.b} ys (ap (λ z. z.a.b.rest.items) same ∙ (ap (λ i. i.b.rest.items) z.first ∙ y.second.0)) (ap (λ z. z.a.b.rest.len) same ∙ (ap (λ i. i.b.rest.len) z.first ∙ (y.second.1 ∙ c.args.cond_seats.ok.0)))) in
    let road = YieldsList-from_zip {s = s} pairs (YieldsList-from_vec {s = s.b} zs (ap (λ z. z.b.rest.items) same ∙ z.second.0) (ap (λ z. z.b.rest.len) same ∙ (z.second.1 ∙ c.args.plain_seats.ok.0))) in
    let t = YieldsList-turn road c.triples.yielded c.triples.seat-iterator c.triples.yielded_by c.next.result c.next.new.self ((c.in-Some.seat, c.in-Some.cond_seats), c.in-Some.plain_seats) c.in-Some.is c.next.ensures.steps in
    let all = stand_all xs ys zs (length c.triples.yielded) c.in-Some.seat c.in-Some.cond_seats c.in-Some.plain_seats t.0 t.1 in
    record { kept = c.requires.kept (length c.triples.yielded) c.in-Some.seat all.0 }

pub triples-preserved : goal.triples-preserved
triples-preserved g c = let s = c.into_iter-seat-iterator.result in let same = c.into_iter-seat-iterator.ensures.into_iter_gives in let z = c.zip-seat-items.ensures in let y = c.zip.ensures in let f = c.into_iter.ensures in
    let xs = c.args.seats.items in let ys = c.args.cond_seats.items in let zs = c.args.plain_seats.items in
    let pairs = YieldsList-from_zip {s = s.a} (YieldsList-from_vec {s = s.a.a} xs (ap (λ z. z.a.a.rest.items) same ∙ (ap (λ i. i.a.rest.items) z.first ∙ (ap (λ i. i.rest.items) y.first ∙ f.rest))) (ap (λ z. z.a.a.rest.len) same ∙ (ap (λ i. i.a.rest.len) z.first ∙ (ap (λ i. i.rest.len) y.first ∙ (f.len ∙ c.args.seats.ok.0)))))
    (YieldsList-from_vec {s = s.a.b} ys (ap (λ z. z.a.b.rest.items) same ∙ (ap (λ i. i.b.rest.items) z.first ∙ y.second.0)) (ap (λ z. z.a.b.rest.len) same ∙ (ap (λ i. i.b.rest.len) z.first ∙ (y.second.1 ∙ c.args.cond_seats.ok.0)))) in
    let road = YieldsList-from_zip {s = s} pairs (YieldsList-from_vec {s = s.b} zs (ap (λ z. z.b.rest.items) same ∙ z.second.0) (ap (λ z. z.b.rest.len) same ∙ (z.second.1 ∙ c.args.plain_seats.ok.0))) in
    let t = YieldsList-turn road c.triples.yielded c.triples.seat-iterator c.triples.yielded_by c.next.result c.next.new.self ((c.in-Some.seat, c.in-Some.cond_seats), c.in-Some.plain_seats) c.in-Some.is c.next.ensures.steps in
    let all = stand_all xs ys zs (length c.triples.yielded) c.in-Some.seat c.in-Some.cond_seats c.in-Some.plain_seats t.0 t.1 in
    let i = c.triples.invariant in let p = c.push_reserved.ensures in
    let long : length c.triples.yielded ≡ length c.triples.passes.items = (let a = i.size.0 in let o = c.triples.passes.ok in omega arith) in
    record {
      size = (let n = length_push c.triples.yielded ((c.in-Some.seat, c.in-Some.cond_seats), c.in-Some.plain_seats) in let a = i.size.0 in let l = p.len in omega arith, p.capacity ∙ i.size.1);
      passes = each_more (λ (j : ℕ) (p : Pass g.row.O.Denot g.row.O-Op.Denot g.row.O-Reply.Denot g.O.Object). (get_elem? xs j ≡ some p.seat) × (get_elem? ys j ≡ some p.cond_seats) × (get_elem? zs j ≡ some p.plain_seats) × (p.seen ≡ 0) × (p.mine ≡ 0)) c.triples.passes.items c.push_reserved.new.self.items _ p.items i.passes
          (subst (λ (n : ℕ). get_elem? xs n ≡ some c.in-Some.seat) long all.0, subst (λ (n : ℕ). get_elem? ys n ≡ some c.in-Some.cond_seats) long all.1, subst (λ (n : ℕ). get_elem? zs n ≡ some c.in-Some.plain_seats) long all.2, refl, refl);
    }

pub returns-clause-count : goal.returns-clause-count
returns-clause-count g c = let s = c.into_iter-seat-iterator.result in let same = c.into_iter-seat-iterator.ensures.into_iter_gives in let z = c.zip-seat-items.ensures in let y = c.zip.ensures in let f = c.into_iter.ensures in
    let xs = c.args.seats.items in let ys = c.args.cond_seats.items in let zs = c.args.plain_seats.items in
    let pairs = YieldsList-from_zip {s = s.a} (YieldsList-from_vec {s = s.a.a} xs (ap (λ z. z.a.a.rest.items) same ∙ (ap (λ i. i.a.rest.items) z.first ∙ (ap (λ i. i.rest.items) y.first ∙ f.rest))) (ap (λ z. z.a.a.rest.len) same ∙ (ap (λ i. i.a.rest.len) z.first ∙ (ap (λ i. i.rest.len) y.first ∙ (f.len ∙ c.args.seats.ok.0)))))
    (YieldsList-from_vec {s = s.a.b} ys (ap (λ z. z.a.b.rest.items) same ∙ (ap (λ i. i.b.rest.items) z.first ∙ y.second.0)) (ap (λ z. z.a.b.rest.len) same ∙ (ap (λ i. i.b.rest.len) z.first ∙ (y.second.1 ∙ c.args.cond_seats.ok.0)))) in
    let road = YieldsList-from_zip {s = s} pairs (YieldsList-from_vec {s = s.b} zs (ap (λ z. z.b.rest.items) same ∙ z.second.0) (ap (λ z. z.b.rest.len) same ∙ (z.second.1 ∙ c.args.plain_seats.ok.0))) in
    let e = YieldsList-end road c.triples.yielded c.triples.seat-iterator c.triples.yielded_by c.next.result c.next.new.self c.in-None.is c.next.ensures.steps in
    let i = c.triples.invariant.size.0 in let ended = e.1 in let x = c.args.seats.ok.0 in let y = c.args.cond_seats.ok.0 in let z = c.args.plain_seats.ok.0 in let many = c.requires.room.2 in let more = c.requires.room.3 in
    let long = length_zips xs ys zs (omega arith) (omega arith) in omega arith

pub returns-clause-passes : goal.returns-clause-passes
returns-clause-passes g c = c.triples.invariant.passes
