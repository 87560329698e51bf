use Rattle.std.proofs.Common.{sym, ◌∙◌}
use Rattle.lfm_pool.proofs.Trying.{at_load, at_word, ends_at_none, ends_by_word, loads_owner}
use Rattle.lfm_pool.proofs.try_lock.try_taken.Goals as goal

pub go_on-requires-clause-is_next : goal.go_on-requires-clause-is_next
go_on-requires-clause-is_next c = loads_owner c.args.seat.now c.args.pool.now c.args.mutex c.requires.may c.requires.at c.requires.flat

pub handoff_load-post-requires-clause-at : goal.handoff_load-post-requires-clause-at
handoff_load-post-requires-clause-at c =
    let f = c.go_on in at_load c.args.seat.now c.args.pool.now c.args.mutex c.requires.may c.requires.at c.requires.flat f.new.seat f.result f.ensures.step f.ensures.finds f.ensures.may

pub accept-requires-clause-at : goal.accept-requires-clause-at
accept-requires-clause-at c =
    let f = c.go_on in let h = c.handoff_load-post in
    at_word c.args.seat.now c.args.pool.now c.args.mutex c.requires.may c.requires.at c.requires.flat f.new.seat f.result f.ensures.step f.ensures.finds f.ensures.may h.new.seat h.result h.ensures.step
    (sym c.if-is_posted_in.ensures)

pub returns-then-is_posted_in-clause-ends : goal.returns-then-is_posted_in-clause-ends
returns-then-is_posted_in-clause-ends c =
    let f = c.go_on in let h = c.handoff_load-post in let k = c.accept in
    ends_by_word c.args.seat.now c.args.pool.now c.args.mutex c.requires.may c.requires.at c.requires.flat f.new.seat f.result f.ensures.step f.ensures.finds f.ensures.may h.new.seat h.result h.ensures.step
    (sym c.if-is_posted_in.ensures) k.new.seat k.result (h.ensures.belongs.number ∙ f.ensures.belongs.number) k.ensures.accepts

pub returns-clause-ends : goal.returns-clause-ends
returns-clause-ends c =
    let f = c.go_on in let h = c.handoff_load-post in
    ends_at_none c.args.seat.now c.args.pool.now c.args.mutex c.requires.may c.requires.at c.requires.flat f.new.seat f.result f.ensures.step f.ensures.finds f.ensures.may h.new.seat h.result h.ensures.step
    (sym c.if-is_posted_in.ensures)
