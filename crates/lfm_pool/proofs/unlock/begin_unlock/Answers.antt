use Rattle.lfm_pool.specs.declared.unlock.Unlocking.{Unlocking}
use Rattle.lfm_pool.proofs.SeveralSteps.{same_then}
use Rattle.lfm_pool.proofs.UnlockSteps.{finds_nobody, hands, is_serving, may_free, may_release, may_serve, may_unlocked, none_of, unlock_bounded, whole_to_serve}
use Rattle.lfm_pool.proofs.unlock.begin_unlock.Goals as goal

pub returns-then-count-eq1-clause-may : goal.returns-then-count-eq1-clause-may
returns-then-count-eq1-clause-may c =
    let r = c.requires in let s = c.args.seat.now in let f = c.leave-count in
    may_free s f.new.seat c.args.pool.now c.args.mutex (may_release s c.args.pool.now c.args.mutex r.belongs r.mutex r.holds r.elsewhere) f.ensures.belongs (f.ensures.leaves c.if-count-eq1.true)

pub returns-then-count-eq1-clause-bounded : goal.returns-then-count-eq1-clause-bounded
returns-then-count-eq1-clause-bounded c =
    let r = c.requires in let s = c.args.seat.now in let f = c.leave-count in
    unlock_bounded s f.new.seat c.args.pool.now c.args.mutex (may_release s c.args.pool.now c.args.mutex r.belongs r.mutex r.holds r.elsewhere) Unlocking.Free (f.ensures.leaves c.if-count-eq1.true)

pub serve-requires-clause-belongs : goal.serve-requires-clause-belongs
serve-requires-clause-belongs c =
    let r = c.requires in let s = c.args.seat.now in let p = c.args.pool.now in let m = c.args.mutex in let f = c.leave-count in
    (may_serve s f.new.seat p m f.result (may_release s p m r.belongs r.mutex r.holds r.elsewhere) f.ensures.belongs (f.ensures.serves c.if-count-eq1.false)).belongs

pub serve-requires-clause-sits : goal.serve-requires-clause-sits
serve-requires-clause-sits c =
    let r = c.requires in let s = c.args.seat.now in let p = c.args.pool.now in let m = c.args.mutex in let f = c.leave-count in
    (may_serve s f.new.seat p m f.result (may_release s p m r.belongs r.mutex r.holds r.elsewhere) f.ensures.belongs (f.ensures.serves c.if-count-eq1.false)).sits

pub serve-requires-clause-elsewhere : goal.serve-requires-clause-elsewhere
serve-requires-clause-elsewhere c =
    let r = c.requires in let s = c.args.seat.now in let p = c.args.pool.now in let m = c.args.mutex in let f = c.leave-count in
    (may_serve s f.new.seat p m f.result (may_release s p m r.belongs r.mutex r.holds r.elsewhere) f.ensures.belongs (f.ensures.serves c.if-count-eq1.false)).elsewhere

pub serve-requires-clause-at : goal.serve-requires-clause-at
serve-requires-clause-at c =
    let r = c.requires in let s = c.args.seat.now in let p = c.args.pool.now in let m = c.args.mutex in let f = c.leave-count in
    is_serving s f.new.seat p m f.result (may_release s p m r.belongs r.mutex r.holds r.elsewhere) f.ensures.belongs (f.ensures.serves c.if-count-eq1.false)

pub serve-requires-clause-whole : goal.serve-requires-clause-whole
serve-requires-clause-whole c =
    let r = c.requires in let s = c.args.seat.now in let p = c.args.pool.now in let m = c.args.mutex in let f = c.leave-count in
    whole_to_serve s f.new.seat p m f.result (may_release s p m r.belongs r.mutex r.holds r.elsewhere) f.ensures.belongs (f.ensures.serves c.if-count-eq1.false)

pub returns-in_default-clause-unlocks : goal.returns-in_default-clause-unlocks
returns-in_default-clause-unlocks c =
    let r = c.requires in let s = c.args.seat.now in let p = c.args.pool.now in let m = c.args.mutex in let f = c.leave-count in
    finds_nobody s f.new.seat p m f.result (may_release s p m r.belongs r.mutex r.holds r.elsewhere) f.ensures.belongs (f.ensures.serves c.if-count-eq1.false) c.if-count-eq1.false c.serve.new.seat
    (c.serve.ensures.none (none_of c.serve.result (λ z. c.in_default.not-Some z)))

pub returns-in_default-clause-may : goal.returns-in_default-clause-may
returns-in_default-clause-may c =
    let r = c.requires in let s = c.args.seat.now in let p = c.args.pool.now in let m = c.args.mutex in
    may_unlocked s c.serve.new.seat p m (may_release s p m r.belongs r.mutex r.holds r.elsewhere) (same_then s c.leave-count.new.seat c.serve.new.seat c.leave-count.ensures.belongs c.serve.ensures.belongs) Unlocking.Posts
    (returns-in_default-clause-unlocks c)

pub returns-in_default-clause-bounded : goal.returns-in_default-clause-bounded
returns-in_default-clause-bounded c =
    let r = c.requires in let s = c.args.seat.now in let p = c.args.pool.now in let m = c.args.mutex in
    unlock_bounded s c.serve.new.seat p m (may_release s p m r.belongs r.mutex r.holds r.elsewhere) Unlocking.Posts (returns-in_default-clause-unlocks c)

pub returns-clause-unlocks : goal.returns-clause-unlocks
returns-clause-unlocks c =
    let r = c.requires in let s = c.args.seat.now in let p = c.args.pool.now in let m = c.args.mutex in let f = c.leave-count in
    hands s f.new.seat p m f.result (may_release s p m r.belongs r.mutex r.holds r.elsewhere) f.ensures.belongs (f.ensures.serves c.if-count-eq1.false) c.if-count-eq1.false c.serve.new.seat c.in-Some.wake_up c.in-Some.ensures.grants

pub returns-clause-may : goal.returns-clause-may
returns-clause-may c =
    let r = c.requires in let s = c.args.seat.now in let p = c.args.pool.now in let m = c.args.mutex in
    may_unlocked s c.serve.new.seat p m (may_release s p m r.belongs r.mutex r.holds r.elsewhere) (same_then s c.leave-count.new.seat c.serve.new.seat c.leave-count.ensures.belongs c.serve.ensures.belongs) (Unlocking.Granted c.in-Some.wake_up)
    (returns-clause-unlocks c)

pub returns-clause-bounded : goal.returns-clause-bounded
returns-clause-bounded c =
    let r = c.requires in let s = c.args.seat.now in let p = c.args.pool.now in let m = c.args.mutex in
    unlock_bounded s c.serve.new.seat p m (may_release s p m r.belongs r.mutex r.holds r.elsewhere) (Unlocking.Granted c.in-Some.wake_up) (returns-clause-unlocks c)
