use Rattle.std.proofs.Common.{sym, ap, ◌∙◌, Some, None}
use Rattle.lfm_protocol.specs.After.{how_granted}
use Rattle.lfm_pool.proofs.Receiving.{at_grant, enters, may_loaded, may_quiet, receive_bounded, receive_holds, receives, sleeps_on}
use Rattle.lfm_pool.proofs.receive.try_receive.Goals as goal

pub returns-then-not-is_grant_word-clause-may : goal.returns-then-not-is_grant_word-clause-may
returns-then-not-is_grant_word-clause-may c =
    let s = c.args.seat.now in let p = c.args.pool.now in let m = c.args.mutex in let f = c.wake_load-word in may_loaded s f.new.seat p m f.result c.requires.may c.requires.sleeps f.ensures.step f.ensures.belongs

pub returns-then-not-is_grant_word-clause-receives : goal.returns-then-not-is_grant_word-clause-receives
returns-then-not-is_grant_word-clause-receives c =
    let s = c.args.seat.now in let p = c.args.pool.now in let m = c.args.mutex in let f = c.wake_load-word in
    sleeps_on s f.new.seat p m f.result c.requires.may c.requires.sleeps f.ensures.step (sym c.if-not-is_grant_word.ensures)

pub returns-then-not-is_grant_word-clause-bounded : goal.returns-then-not-is_grant_word-clause-bounded
returns-then-not-is_grant_word-clause-bounded c =
    let s = c.args.seat.now in let p = c.args.pool.now in let m = c.args.mutex in let f = c.wake_load-word in
    receive_bounded s f.new.seat p m None c.requires.may (sleeps_on s f.new.seat p m f.result c.requires.may c.requires.sleeps f.ensures.step (sym c.if-not-is_grant_word.ensures))

pub wake_store-requires-clause-belongs : goal.wake_store-requires-clause-belongs
wake_store-requires-clause-belongs c =
    let s = c.args.seat.now in let p = c.args.pool.now in let m = c.args.mutex in let f = c.wake_load-word in (may_loaded s f.new.seat p m f.result c.requires.may c.requires.sleeps f.ensures.step f.ensures.belongs).belongs

pub wake_store-requires-clause-sits : goal.wake_store-requires-clause-sits
wake_store-requires-clause-sits c =
    let s = c.args.seat.now in let p = c.args.pool.now in let m = c.args.mutex in let f = c.wake_load-word in (may_loaded s f.new.seat p m f.result c.requires.may c.requires.sleeps f.ensures.step f.ensures.belongs).sits

pub wake_store-requires-clause-elsewhere : goal.wake_store-requires-clause-elsewhere
wake_store-requires-clause-elsewhere c =
    let s = c.args.seat.now in let p = c.args.pool.now in let m = c.args.mutex in let f = c.wake_load-word in (may_loaded s f.new.seat p m f.result c.requires.may c.requires.sleeps f.ensures.step f.ensures.belongs).elsewhere

pub wake_store-requires-clause-at : goal.wake_store-requires-clause-at
wake_store-requires-clause-at c =
    let s = c.args.seat.now in let p = c.args.pool.now in let m = c.args.mutex in let f = c.wake_load-word in
    at_grant s f.new.seat p m f.result c.requires.may c.requires.sleeps f.ensures.step (sym c.if-not-is_grant_word.ensures) (may_loaded s f.new.seat p m f.result c.requires.may c.requires.sleeps f.ensures.step f.ensures.belongs)

pub go_on-requires-clause-may : goal.go_on-requires-clause-may
go_on-requires-clause-may c =
    let s = c.args.seat.now in let p = c.args.pool.now in let m = c.args.mutex in let f = c.wake_load-word in let h = c.wake_store in
    may_quiet s f.new.seat p m f.result c.requires.may c.requires.sleeps f.ensures.step (sym c.if-not-is_grant_word.ensures) (may_loaded s f.new.seat p m f.result c.requires.may c.requires.sleeps f.ensures.step f.ensures.belongs)
    h.new.seat h.ensures.step h.ensures.belongs

pub go_on-requires-clause-is_next : goal.go_on-requires-clause-is_next
go_on-requires-clause-is_next c =
    let s = c.args.seat.now in let p = c.args.pool.now in let m = c.args.mutex in let f = c.wake_load-word in let h = c.wake_store in
    enters s f.new.seat p m f.result c.requires.may c.requires.sleeps f.ensures.step (sym c.if-not-is_grant_word.ensures) (may_loaded s f.new.seat p m f.result c.requires.may c.requires.sleeps f.ensures.step f.ensures.belongs)
    h.new.seat h.ensures.step

pub returns-clause-receives : goal.returns-clause-receives
returns-clause-receives c =
    let s = c.args.seat.now in let p = c.args.pool.now in let m = c.args.mutex in let f = c.wake_load-word in let h = c.wake_store in let k = c.go_on in let may1 = may_loaded s f.new.seat p m f.result c.requires.may c.requires.sleeps f.ensures.step f.ensures.belongs in
    let some = sym c.if-not-is_grant_word.ensures in
    receives s f.new.seat p m f.result c.requires.may c.requires.sleeps f.ensures.step some may1 h.new.seat h.ensures.step k.new.seat k.result _
    (may_quiet s f.new.seat p m f.result c.requires.may c.requires.sleeps f.ensures.step some may1 h.new.seat h.ensures.step h.ensures.belongs) k.ensures.step
    (k.ensures.told ∙ (h.ensures.belongs.number ∙ f.ensures.belongs.number)) (c.how_granted.ensures ∙ ap how_granted c.grant_stamp.ensures)

pub returns-clause-bounded : goal.returns-clause-bounded
returns-clause-bounded c =
    let s = c.args.seat.now in let p = c.args.pool.now in let m = c.args.mutex in let f = c.wake_load-word in let h = c.wake_store in let k = c.go_on in let may1 = may_loaded s f.new.seat p m f.result c.requires.may c.requires.sleeps f.ensures.step f.ensures.belongs in
    let some = sym c.if-not-is_grant_word.ensures in
    receive_bounded s k.new.seat p m (Some c.how_granted.result) c.requires.may
    (receives s f.new.seat p m f.result c.requires.may c.requires.sleeps f.ensures.step some may1 h.new.seat h.ensures.step k.new.seat k.result c.how_granted.result
    (may_quiet s f.new.seat p m f.result c.requires.may c.requires.sleeps f.ensures.step some may1 h.new.seat h.ensures.step h.ensures.belongs) k.ensures.step
    (k.ensures.told ∙ (h.ensures.belongs.number ∙ f.ensures.belongs.number)) (c.how_granted.ensures ∙ ap how_granted c.grant_stamp.ensures))

pub returns-clause-holds : goal.returns-clause-holds
returns-clause-holds c =
    receive_holds c.args.seat.now c.go_on.new.seat c.args.pool.now c.args.mutex (Some c.how_granted.result) c.requires.may c.go_on.ensures.may (returns-clause-receives c)
