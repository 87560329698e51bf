use Rattle.std.proofs.Common.{sym, ◌∙◌}
use Rattle.lfm_pool.proofs.Asking.{at_handoff, at_word, carries_word, sleeps_at_none, sleeps_beside}
use Rattle.lfm_pool.proofs.SeveralSteps.{same_then}
use Rattle.lfm_pool.proofs.ask.queue.Goals as goal

pub load_handoff-post-requires-clause-at : goal.load_handoff-post-requires-clause-at
load_handoff-post-requires-clause-at c = at_handoff c.args.seat.now c.push_record.new.seat c.args.pool.now c.args.mutex c.requires.may c.push_record.ensures.queues

pub returns-then-not-is_posted_in-clause-belongs : goal.returns-then-not-is_posted_in-clause-belongs
returns-then-not-is_posted_in-clause-belongs c = same_then c.args.seat.now c.push_record.new.seat c.load_handoff-post.new.seat c.push_record.ensures.belongs c.load_handoff-post.ensures.belongs

pub returns-then-not-is_posted_in-clause-waits : goal.returns-then-not-is_posted_in-clause-waits
returns-then-not-is_posted_in-clause-waits c =
    let f = c.push_record in let h = c.load_handoff-post in
    sleeps_at_none c.args.seat.now f.new.seat c.args.pool.now c.args.mutex c.requires.may f.ensures.queues f.ensures.may h.new.seat h.result h.ensures.loads (sym c.if-not-is_posted_in.ensures)

pub take_over-found-requires-clause-belongs : goal.take_over-found-requires-clause-belongs
take_over-found-requires-clause-belongs c = c.load_handoff-post.ensures.may.belongs

pub take_over-found-requires-clause-sits : goal.take_over-found-requires-clause-sits
take_over-found-requires-clause-sits c = c.load_handoff-post.ensures.may.sits

pub take_over-found-requires-clause-elsewhere : goal.take_over-found-requires-clause-elsewhere
take_over-found-requires-clause-elsewhere c = c.load_handoff-post.ensures.may.elsewhere

pub take_over-found-requires-clause-at : goal.take_over-found-requires-clause-at
take_over-found-requires-clause-at c =
    let f = c.push_record in let h = c.load_handoff-post in
    at_word c.args.seat.now f.new.seat c.args.pool.now c.args.mutex c.requires.may f.ensures.queues f.ensures.may h.new.seat h.result h.ensures.loads (sym c.if-not-is_posted_in.ensures) h.ensures.may

pub returns-then-found-post-clause-waits : goal.returns-then-found-post-clause-waits
returns-then-found-post-clause-waits c =
    let f = c.push_record in let h = c.load_handoff-post in let k = c.take_over-found in
    carries_word c.args.seat.now f.new.seat c.args.pool.now c.args.mutex c.requires.may f.ensures.queues f.ensures.may h.new.seat h.result h.ensures.loads (sym c.if-not-is_posted_in.ensures) h.ensures.may k.new.seat k.result k.ensures.takes
    c.if-found-post.true (h.ensures.belongs.number ∙ f.ensures.belongs.number)

pub returns-clause-waits : goal.returns-clause-waits
returns-clause-waits c =
    let f = c.push_record in let h = c.load_handoff-post in let k = c.take_over-found in
    sleeps_beside c.args.seat.now f.new.seat c.args.pool.now c.args.mutex c.requires.may f.ensures.queues f.ensures.may h.new.seat h.result h.ensures.loads (sym c.if-not-is_posted_in.ensures) h.ensures.may k.new.seat k.result k.ensures.takes
    c.if-found-post.false
