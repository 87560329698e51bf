use Rattle.lfm_pool.specs.declared.finish_ask.Finished.{Finished}
use Rattle.lfm_pool.proofs.AllAsked.{all_bounded, takes_all}
use Rattle.lfm_pool.proofs.Trying.{may_try}
use Rattle.lfm_pool.proofs.ask_all.ask_without_waking.Goals as goal

pub returns-in-Held-finish_ask-clause-asks : goal.returns-in-Held-finish_ask-clause-asks
returns-in-Held-finish_ask-clause-asks c =
    let s = c.args.seat.now in let p = c.args.pool.now in let m = c.args.mutex in let r = c.requires in let f = c.in-Carries.ensures in let h = c.in-Held-finish_ask in
    takes_all s c.begin_ask.new.seat c.finish_ask.new.seat p m (may_try s p m r.belongs r.mutex r.may r.elsewhere) f.belongs f.asks (Finished.Held h.stamp) h.ensures.finishes

pub returns-in-Held-finish_ask-clause-bounded : goal.returns-in-Held-finish_ask-clause-bounded
returns-in-Held-finish_ask-clause-bounded c =
    let s = c.args.seat.now in let p = c.args.pool.now in let m = c.args.mutex in let r = c.requires in let f = c.in-Carries.ensures in let h = c.in-Held-finish_ask in let may = may_try s p m r.belongs r.mutex r.may r.elsewhere in
    all_bounded s c.finish_ask.new.seat p m may (Finished.Held h.stamp) (takes_all s c.begin_ask.new.seat c.finish_ask.new.seat p m may f.belongs f.asks (Finished.Held h.stamp) h.ensures.finishes)

pub returns-in-Granted-clause-asks : goal.returns-in-Granted-clause-asks
returns-in-Granted-clause-asks c =
    let s = c.args.seat.now in let p = c.args.pool.now in let m = c.args.mutex in let r = c.requires in let f = c.in-Carries.ensures in let h = c.in-Granted in
    takes_all s c.begin_ask.new.seat c.finish_ask.new.seat p m (may_try s p m r.belongs r.mutex r.may r.elsewhere) f.belongs f.asks (Finished.Granted h.wake_up) h.ensures.finishes

pub returns-in-Granted-clause-bounded : goal.returns-in-Granted-clause-bounded
returns-in-Granted-clause-bounded c =
    let s = c.args.seat.now in let p = c.args.pool.now in let m = c.args.mutex in let r = c.requires in let f = c.in-Carries.ensures in let h = c.in-Granted in let may = may_try s p m r.belongs r.mutex r.may r.elsewhere in
    all_bounded s c.finish_ask.new.seat p m may (Finished.Granted h.wake_up) (takes_all s c.begin_ask.new.seat c.finish_ask.new.seat p m may f.belongs f.asks (Finished.Granted h.wake_up) h.ensures.finishes)
