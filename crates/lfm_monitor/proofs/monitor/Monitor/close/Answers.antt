use Rattle.std.proofs.Common.{refl, sym, arith, ap, subst, ◌∙◌}
use Rattle.lfm_protocol.specs.declared.limits.Limits.{Limits}
use Rattle.lfm_mutex.specs.declared.pace.Pace.{Pace}
use Rattle.lfm_mutex.specs.Belongs.{limits_of}
use Rattle.lfm_monitor.specs.CondSeats.{AreConditions, ArePaced}
use Rattle.lfm_monitor.specs.PlainSeats.{ArePlainConditions, ArePlainPaced}
use Rattle.lfm_mutex.specs.calls.Sight.{sight}
use Rattle.lfm_model.specs.Journals.{after_all}
use Rattle.lfm_monitor.specs.Belongs.{opening_of, passes_of, share_of}
use Rattle.lfm_monitor.specs.declared.pass.Pass.{Pass}
use lib.ListN.{get_elem?}
use Rattle.lfm_monitor.proofs.Ending.{backs, ends_as, kept_of, own_ends, mine_ends, order_ends, whole}
use Rattle.lfm_monitor.proofs.monitor.Monitor.close.Goals as goal

pub close-requires-clause-belongs : goal.close-requires-clause-belongs
close-requires-clause-belongs g c κs within j p at = (c.requires.belongs j p at).0

pub returns-in-Ok-clause-mine : goal.returns-in-Ok-clause-mine
returns-in-Ok-clause-mine g c j p at = let m = c.args.self in let v = c.in-Ok.journaled in
    let b = backs c.args.passes.items (passes_of m) (opening_of m) (share_of m) v c.in-Ok.ensures.all (λ j p at. (c.requires.belongs j p at).1) (λ j p l at is. c.in-Ok.ensures.reached j p l at is) j p at in
    let seat = (λ (p : Pass g.row.O.Denot g.row.O-Op.Denot g.row.O-Reply.Denot g.O.Object). sight p.seat) in (
      own_ends seat (λ p. p.seen) (λ p. p.mine) (λ p. p.kept) (opening_of m) (passes_of m) (share_of m) v p b,
      mine_ends seat (λ p. p.seen) (λ p. p.mine) (λ p. p.kept) (opening_of m) (passes_of m) (share_of m) v p b,
    )

pub returns-in-Ok-clause-order : goal.returns-in-Ok-clause-order
returns-in-Ok-clause-order g c j p at = let m = c.args.self in let v = c.in-Ok.journaled in
    let b = backs c.args.passes.items (passes_of m) (opening_of m) (share_of m) v c.in-Ok.ensures.all (λ j p at. (c.requires.belongs j p at).1) (λ j p l at is. c.in-Ok.ensures.reached j p l at is) j p at in
    order_ends (λ (p : Pass g.row.O.Denot g.row.O-Op.Denot g.row.O-Reply.Denot g.O.Object). sight p.seat) (λ p. p.seen) (λ p. p.mine) (λ p. p.kept) (opening_of m) (passes_of m) (share_of m) v p b

pub returns-in-Ok-clause-whole : goal.returns-in-Ok-clause-whole
returns-in-Ok-clause-whole g c = let m = c.args.self in let ps = c.args.passes.items in let v = c.in-Ok.journaled in
    let seat = (λ (p : Pass g.row.O.Denot g.row.O-Op.Denot g.row.O-Reply.Denot g.O.Object). sight p.seat) in
    let len = v.journal.ok in let pl = c.args.passes.ok in let z = c.in-Ok.ensures.sized in let lim = m.mutex.some in
    len.0 ∙ whole seat (λ p. p.seen) (λ p. p.mine) (λ p. p.kept) (opening_of m) (passes_of m) (share_of m) v ps (omega arith) (omega arith) (λ k p q. (c.in-Ok.ensures.all k p q).0)
    (backs ps (passes_of m) (opening_of m) (share_of m) v c.in-Ok.ensures.all (λ j p at. (c.requires.belongs j p at).1) (λ j p l at is. c.in-Ok.ensures.reached j p l at is))

pub returns-in-Ok-clause-legal : goal.returns-in-Ok-clause-legal
returns-in-Ok-clause-legal g c = let m = c.args.self in let v = c.in-Ok.journaled in
    let seat = (λ (p : Pass g.row.O.Denot g.row.O-Op.Denot g.row.O-Reply.Denot g.O.Object). sight p.seat) in
    let lim = m.mutex.some in let one = (c.in-Ok.ensures.all 1 (omega arith) (omega arith)).0 in
    let e = ends_as seat (λ p. p.seen) (λ p. p.mine) (λ p. p.kept) (opening_of m) (passes_of m) (share_of m) v one.1
    (backs c.args.passes.items (passes_of m) (opening_of m) (share_of m) v c.in-Ok.ensures.all (λ j p at. (c.requires.belongs j p at).1) (λ j p l at is. c.in-Ok.ensures.reached j p l at is) one.0 one.1 one.2) in
    (v.legal ∙ ap (λ s. after_all g.O.Object.after s v.journal.items) e.0, v.lawful)

pub returns-in-Err-clause-back : goal.returns-in-Err-clause-back
returns-in-Err-clause-back g c j p at = let m = c.in-Err.ensures.missing in let o = c.requires.belongs j p (ap (λ (ps : _). get_elem? ps.items j) (sym m.1) ∙ at) in
    let k = kept_of c.args.self.mutex c.in-Err.mutex (opening_of c.args.self) (share_of c.args.self) p (sym m.0) (o.0, o.1) in (k.0, k.1, o.2)

pub returns-in-Err-clause-kept : goal.returns-in-Err-clause-kept
returns-in-Err-clause-kept g c p o = let k = kept_of c.args.self.mutex c.in-Err.mutex (opening_of c.args.self) (share_of c.args.self) p (sym c.in-Err.ensures.missing.0) (o.0, o.1) in (k.0, k.1, o.2)

pub returns-in-Ok-clause-all : goal.returns-in-Ok-clause-all
returns-in-Ok-clause-all g c = c.in-Ok.ensures.all

pub returns-in-Err-clause-missing : goal.returns-in-Err-clause-missing
returns-in-Err-clause-missing g c = let m = c.in-Err.ensures.missing in ((m.0, refl, refl, refl, refl), m.1, m.2)

pub invariant_of-result : goal.invariant_of-result
invariant_of-result g c = let m = c.args.self in let same = sym c.in-Err.ensures.missing.0 in record {
  shared = ap (λ x. (limits_of x).budget) c.in-Err.ensures.missing.0 ∙ m.shared;
  wide = subst (λ (l : Limits). AreConditions l.seats m.conditions.items) (ap (λ x. limits_of x) same) m.wide;
  paced = subst (λ (p : Pace). ArePaced p m.conditions.items) (ap (λ x. x.pace) same) m.paced;
  plain_wide = subst (λ (l : Limits). ArePlainConditions l.seats m.plain_conditions.items) (ap (λ x. limits_of x) same) m.plain_wide;
  plain_paced = subst (λ (p : Pace). ArePlainPaced p m.plain_conditions.items) (ap (λ x. x.pace) same) m.plain_paced;
  one_kind = m.one_kind;
}
