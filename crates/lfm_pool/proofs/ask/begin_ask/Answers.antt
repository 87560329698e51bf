use Rattle.std.proofs.Common.{◌∙◌}
use Rattle.lfm_pool.specs.declared.ask.Asking.{Asking}
use Rattle.lfm_pool.proofs.Asking.{admitted_to_push, ask_bounded, asks, at_push, counts, enters, holds, loads_owner, ready}
use Rattle.lfm_pool.proofs.SeveralSteps.{same_then}
use Rattle.lfm_pool.proofs.Trying.{may_try}
use Rattle.lfm_pool.proofs.ask.begin_ask.Goals as goal

pub start-count-requires-clause-is_next : goal.start-count-requires-clause-is_next
start-count-requires-clause-is_next c =
    let s = c.args.seat.now in let p = c.args.pool.now in let m = c.args.mutex in counts s p m (may_try s p m c.requires.belongs c.requires.mutex c.requires.may c.requires.elsewhere) c.requires.may

pub go_on-requires-clause-is_next : goal.go_on-requires-clause-is_next
go_on-requires-clause-is_next c =
    let s = c.args.seat.now in let p = c.args.pool.now in let m = c.args.mutex in let f = c.start-count in
    enters s p m (may_try s p m c.requires.belongs c.requires.mutex c.requires.may c.requires.elsewhere) c.requires.may f.new.seat f.result f.ensures.step f.ensures.may c.if-count-eq0.true

pub returns-then-count-eq0-clause-asks : goal.returns-then-count-eq0-clause-asks
returns-then-count-eq0-clause-asks c =
    let s = c.args.seat.now in let p = c.args.pool.now in let m = c.args.mutex in let f = c.start-count in let h = c.go_on in
    holds s p m (may_try s p m c.requires.belongs c.requires.mutex c.requires.may c.requires.elsewhere) c.requires.may f.new.seat f.result f.ensures.step f.ensures.may c.if-count-eq0.true h.new.seat h.result h.ensures.step
    (h.ensures.told ∙ f.ensures.belongs.number)

pub go_on-requires-2-clause-is_next : goal.go_on-requires-2-clause-is_next
go_on-requires-2-clause-is_next c =
    let s = c.args.seat.now in let p = c.args.pool.now in let m = c.args.mutex in let f = c.start-count in
    loads_owner s p m (may_try s p m c.requires.belongs c.requires.mutex c.requires.may c.requires.elsewhere) c.requires.may f.new.seat f.result f.ensures.step f.ensures.may c.if-count-eq0.false

pub queue-requires-clause-at : goal.queue-requires-clause-at
queue-requires-clause-at c =
    let s = c.args.seat.now in let p = c.args.pool.now in let m = c.args.mutex in let f = c.start-count in let h = c.go_on-2 in
    at_push s p m (may_try s p m c.requires.belongs c.requires.mutex c.requires.may c.requires.elsewhere) c.requires.may f.new.seat f.result f.ensures.step f.ensures.may c.if-count-eq0.false h.new.seat h.result h.ensures.step h.ensures.finds h.ensures.may

pub queue-requires-clause-admitted : goal.queue-requires-clause-admitted
queue-requires-clause-admitted c =
    let s = c.args.seat.now in let p = c.args.pool.now in let m = c.args.mutex in let f = c.start-count in let h = c.go_on-2 in
    admitted_to_push s p m (may_try s p m c.requires.belongs c.requires.mutex c.requires.may c.requires.elsewhere) c.requires.may f.new.seat f.result f.ensures.step f.ensures.may c.if-count-eq0.false h.new.seat h.result h.ensures.step h.ensures.finds h.ensures.may
    c.requires.admitted

pub returns-clause-asks : goal.returns-clause-asks
returns-clause-asks c =
    let s = c.args.seat.now in let p = c.args.pool.now in let m = c.args.mutex in let f = c.start-count in let h = c.go_on-2 in let k = c.queue in
    asks s p m (may_try s p m c.requires.belongs c.requires.mutex c.requires.may c.requires.elsewhere) c.requires.may f.new.seat f.result f.ensures.step f.ensures.may c.if-count-eq0.false h.new.seat h.result h.ensures.step h.ensures.finds h.ensures.may
    k.new.seat k.result k.ensures.waits f.ensures.belongs.number (h.ensures.belongs.number ∙ f.ensures.belongs.number)

pub returns-clause-bounded : goal.returns-clause-bounded
returns-clause-bounded c =
    let s = c.args.seat.now in let p = c.args.pool.now in let m = c.args.mutex in let f = c.start-count in let h = c.go_on-2 in let k = c.queue in
    let may = may_try s p m c.requires.belongs c.requires.mutex c.requires.may c.requires.elsewhere in
    ask_bounded s k.new.seat p m k.result may
    (asks s p m may c.requires.may f.new.seat f.result f.ensures.step f.ensures.may c.if-count-eq0.false h.new.seat h.result h.ensures.step h.ensures.finds h.ensures.may
    k.new.seat k.result k.ensures.waits f.ensures.belongs.number (h.ensures.belongs.number ∙ f.ensures.belongs.number))

pub returns-then-count-eq0-clause-ready : goal.returns-then-count-eq0-clause-ready
returns-then-count-eq0-clause-ready c =
    let s = c.args.seat.now in let f = c.start-count in let h = c.go_on in
    ready s h.new.seat c.args.pool.now c.args.mutex Asking.Held (may_try s c.args.pool.now c.args.mutex c.requires.belongs c.requires.mutex c.requires.may c.requires.elsewhere) c.requires.may.rests
    (same_then s f.new.seat h.new.seat f.ensures.belongs h.ensures.belongs) h.ensures.may (returns-then-count-eq0-clause-asks c)

pub returns-clause-ready : goal.returns-clause-ready
returns-clause-ready c =
    let s = c.args.seat.now in let f = c.start-count in let h = c.go_on-2 in let k = c.queue in
    ready s k.new.seat c.args.pool.now c.args.mutex k.result (may_try s c.args.pool.now c.args.mutex c.requires.belongs c.requires.mutex c.requires.may c.requires.elsewhere) c.requires.may.rests
    (same_then s f.new.seat k.new.seat f.ensures.belongs (same_then f.new.seat h.new.seat k.new.seat h.ensures.belongs k.ensures.belongs)) k.ensures.may (returns-clause-asks c)
