use Rattle.lfm_pool.proofs.Trying.{at_owner, entered_free, may_free, may_taken, may_try, still_flat, tries_by, try_bounded, try_holds}
use Rattle.lfm_pool.proofs.SeveralSteps.{same_then}
use Rattle.lfm_pool.proofs.try_lock.try_lock.Goals as goal

pub returns-then-enter_if_free-eq0-clause-may : goal.returns-then-enter_if_free-eq0-clause-may
returns-then-enter_if_free-eq0-clause-may c =
    let s = c.args.seat.now in let p = c.args.pool.now in let m = c.args.mutex in let f = c.enter_if_free in
    may_free s f.new.seat p m (may_try s p m c.requires.belongs c.requires.mutex c.requires.may c.requires.elsewhere) f.ensures.belongs (f.ensures.enters c.if-enter_if_free-eq0.true)

pub returns-then-enter_if_free-eq0-clause-tries : goal.returns-then-enter_if_free-eq0-clause-tries
returns-then-enter_if_free-eq0-clause-tries c = let f = c.enter_if_free in entered_free c.args.seat.now f.new.seat c.args.pool.now c.args.mutex (f.ensures.enters c.if-enter_if_free-eq0.true)

pub returns-then-enter_if_free-eq0-clause-bounded : goal.returns-then-enter_if_free-eq0-clause-bounded
returns-then-enter_if_free-eq0-clause-bounded c =
    let s = c.args.seat.now in let p = c.args.pool.now in let m = c.args.mutex in let f = c.enter_if_free in
    try_bounded s f.new.seat p m _ (may_try s p m c.requires.belongs c.requires.mutex c.requires.may c.requires.elsewhere) (entered_free s f.new.seat p m (f.ensures.enters c.if-enter_if_free-eq0.true))

pub try_taken-requires-clause-may : goal.try_taken-requires-clause-may
try_taken-requires-clause-may c =
    let s = c.args.seat.now in let p = c.args.pool.now in let m = c.args.mutex in let f = c.enter_if_free in
    may_taken s f.new.seat p m f.result (may_try s p m c.requires.belongs c.requires.mutex c.requires.may c.requires.elsewhere) (f.ensures.finds c.if-enter_if_free-eq0.false) c.requires.may.flat f.ensures.belongs

pub try_taken-requires-clause-at : goal.try_taken-requires-clause-at
try_taken-requires-clause-at c =
    let s = c.args.seat.now in let p = c.args.pool.now in let m = c.args.mutex in let f = c.enter_if_free in
    at_owner s f.new.seat p m f.result (may_try s p m c.requires.belongs c.requires.mutex c.requires.may c.requires.elsewhere) (f.ensures.finds c.if-enter_if_free-eq0.false) c.requires.may.flat

pub try_taken-requires-clause-flat : goal.try_taken-requires-clause-flat
try_taken-requires-clause-flat c =
    let s = c.args.seat.now in let p = c.args.pool.now in let m = c.args.mutex in let f = c.enter_if_free in
    still_flat s f.new.seat p m f.result (may_try s p m c.requires.belongs c.requires.mutex c.requires.may c.requires.elsewhere) (f.ensures.finds c.if-enter_if_free-eq0.false) c.requires.may.flat

pub returns-clause-belongs : goal.returns-clause-belongs
returns-clause-belongs c = same_then c.args.seat.now c.enter_if_free.new.seat c.try_taken.new.seat c.enter_if_free.ensures.belongs c.try_taken.ensures.belongs

pub returns-clause-tries : goal.returns-clause-tries
returns-clause-tries c =
    let s = c.args.seat.now in let p = c.args.pool.now in let m = c.args.mutex in let f = c.enter_if_free in let k = c.try_taken in
    tries_by s f.new.seat p m f.result (may_try s p m c.requires.belongs c.requires.mutex c.requires.may c.requires.elsewhere) (f.ensures.finds c.if-enter_if_free-eq0.false) c.requires.may.flat k.new.seat k.result
    c.if-enter_if_free-eq0.false c.requires.may.rests f.ensures.belongs.number k.ensures.ends

pub returns-clause-bounded : goal.returns-clause-bounded
returns-clause-bounded c =
    let s = c.args.seat.now in let p = c.args.pool.now in let m = c.args.mutex in let f = c.enter_if_free in let k = c.try_taken in
    let may = may_try s p m c.requires.belongs c.requires.mutex c.requires.may c.requires.elsewhere in
    try_bounded s k.new.seat p m k.result may
    (tries_by s f.new.seat p m f.result may (f.ensures.finds c.if-enter_if_free-eq0.false) c.requires.may.flat k.new.seat k.result c.if-enter_if_free-eq0.false c.requires.may.rests f.ensures.belongs.number k.ensures.ends)

pub returns-then-enter_if_free-eq0-clause-holds : goal.returns-then-enter_if_free-eq0-clause-holds
returns-then-enter_if_free-eq0-clause-holds c =
    let s = c.args.seat.now in let p = c.args.pool.now in let m = c.args.mutex in
    try_holds s c.enter_if_free.new.seat p m _ (may_try s p m c.requires.belongs c.requires.mutex c.requires.may c.requires.elsewhere) c.requires.may.rests (returns-then-enter_if_free-eq0-clause-may c)
    (returns-then-enter_if_free-eq0-clause-tries c)

pub returns-clause-holds : goal.returns-clause-holds
returns-clause-holds c =
    let s = c.args.seat.now in let p = c.args.pool.now in let m = c.args.mutex in
    try_holds s c.try_taken.new.seat p m c.try_taken.result (may_try s p m c.requires.belongs c.requires.mutex c.requires.may c.requires.elsewhere) c.requires.may.rests c.try_taken.ensures.may (returns-clause-tries c)
