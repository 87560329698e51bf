use Rattle.std.proofs.Common.{◌∙◌, ◌++◌, sym, ap, append-nil, arith}
use Rattle.std.proofs.lemmas.List.{at_drop_all}
use Rattle.lfm_model.specs.Journals.{after_all, replies_of}
use Rattle.lfm_model.proofs.JournalTurns.{object_turn, replies_turn, object_stays, replies_stay}
use Rattle.lfm_model.proofs.journals.replay.Goals as goal

pub loop-entry-preserved-in-Took : goal.loop-entry-preserved-in-Took
loop-entry-preserved-in-Took g c = (
  c.loop-entry.invariant.0,
  omega (arith, c.loop-entry.invariant.1),
  object_stays g.O.Object.after g.O.Object.reply c.loop-entry.object _ c.args.entries.now _ c.entry-item.result _ c.loop-entry-test.true c.entry-item.is c.in-Took.is c.loop-entry.invariant.2,
  replies_stay g.O.Object.after g.O.Object.reply c.loop-entry.object c.loop-entry.replies.items _ c.args.entries.now _ c.entry-item.result _ c.loop-entry-test.true c.entry-item.is c.in-Took.is c.loop-entry.invariant.3,
)

pub loop-entry-preserved : goal.loop-entry-preserved
loop-entry-preserved g c = (
  c.push_reserved.ensures.capacity ∙ c.loop-entry.invariant.0,
  omega (arith, c.push_reserved.ensures.len, c.loop-entry.invariant.1),
  object_turn g.O.Object.after g.O.Object.reply c.loop-entry.object c.apply-reply.new.self _ c.args.entries.now _ c.entry-item.result _ c.loop-entry-test.true c.entry-item.is c.in-Did.is c.apply-reply.ensures.changes c.loop-entry.invariant.2,
  replies_turn g.O.Object.after g.O.Object.reply c.loop-entry.object c.apply-reply.new.self c.apply-reply.result c.loop-entry.replies.items _ _ c.args.entries.now _ c.entry-item.result _ c.loop-entry-test.true c.entry-item.is c.in-Did.is c.apply-reply.ensures.changes c.apply-reply.ensures.replies c.push_reserved.ensures.items c.loop-entry.invariant.3,
)

pub push_reserved-requires : goal.push_reserved-requires
push_reserved-requires g c = omega (arith, c.loop-entry.invariant.0, c.loop-entry.invariant.1, c.loop-entry-test.true)

pub returns-clause-object : goal.returns-clause-object
returns-clause-object g c =
    sym (at_drop_all (after_all g.O.Object.after c.loop-entry.object) c.args.entries.now _ c.loop-entry-test.false) ∙ c.loop-entry.invariant.2

pub returns-clause-replies : goal.returns-clause-replies
returns-clause-replies g c =
    sym (append-nil c.loop-entry.replies.items)
    ∙ sym (ap (λ l. c.loop-entry.replies.items ++ l) (at_drop_all (replies_of g.O.Object.after g.O.Object.reply c.loop-entry.object) c.args.entries.now _ c.loop-entry-test.false))
    ∙ c.loop-entry.invariant.3
