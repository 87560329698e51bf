use Rattle.std.proofs.Common.{◌∙◌}
use Rattle.lfm_pool.proofs.Trying.{accepts_word, adds_word, enters_word, loses_word, tries_word}
use Rattle.lfm_pool.proofs.try_lock.accept.Goals as goal

pub handoff_exchange-found-requires-clause-at : goal.handoff_exchange-found-requires-clause-at
handoff_exchange-found-requires-clause-at c = (tries_word c.args.seat.now c.args.mutex c.args.post c.requires.at.0 c.requires.at.1).0

pub handoff_exchange-found-requires-clause-expected : goal.handoff_exchange-found-requires-clause-expected
handoff_exchange-found-requires-clause-expected c = (tries_word c.args.seat.now c.args.mutex c.args.post c.requires.at.0 c.requires.at.1).1

pub returns-then-found-post-clause-accepts : goal.returns-then-found-post-clause-accepts
returns-then-found-post-clause-accepts c =
    let f = c.handoff_exchange-found in loses_word c.args.seat.now c.args.pool.now c.args.mutex c.args.post c.requires.may c.requires.at f.new.seat f.result f.ensures.step c.if-found-post.true

pub go_on-requires-clause-is_next : goal.go_on-requires-clause-is_next
go_on-requires-clause-is_next c =
    let f = c.handoff_exchange-found in adds_word c.args.seat.now c.args.pool.now c.args.mutex c.args.post c.requires.may c.requires.at f.new.seat f.result f.ensures.step c.if-found-post.false f.ensures.may

pub go_on-requires-2-clause-is_next : goal.go_on-requires-2-clause-is_next
go_on-requires-2-clause-is_next c =
    let f = c.handoff_exchange-found in let h = c.go_on in
    enters_word c.args.seat.now c.args.pool.now c.args.mutex c.args.post c.requires.may c.requires.at f.new.seat f.result f.ensures.step c.if-found-post.false f.ensures.may h.new.seat h.result h.ensures.step h.ensures.may

pub returns-clause-accepts : goal.returns-clause-accepts
returns-clause-accepts c =
    let f = c.handoff_exchange-found in let h = c.go_on in let k = c.go_on-2 in
    accepts_word c.args.seat.now c.args.pool.now c.args.mutex c.args.post c.requires.may c.requires.at f.new.seat f.result f.ensures.step c.if-found-post.false f.ensures.may h.new.seat h.result h.ensures.step h.ensures.may k.new.seat k.result k.ensures.step
    (k.ensures.told ∙ (h.ensures.belongs.number ∙ f.ensures.belongs.number))
