use Rattle.std.proofs.Common.{[], ◌∷◌, ◌++◌, refl, sym, ◌∙◌, ap, arith, length-append, append-nil}
use Rattle.lfm_plain_condvar.proofs.Gathered.{gathers_more, gathers_none}
use Rattle.lfm_plain_condvar.proofs.Taken.{takes_more, takes_none, told_more}
use Rattle.lfm_plain_condvar.proofs.hold.notify_all.notify_all.Goals as goal

pub taken-init : goal.taken-init
taken-init c = record {
  gone = ([], takes_none c.args.waiters.now, refl, sym (append-nil c.args.log.now.seat.me.0.parkers));
  of = c.requires.of;
  parked = gathers_none c.args.parked.now c.args.log.now.seat.me.0.parked;
  log = c.requires.log;
}

-- one more was taken out and notified
pub taken-preserved : goal.taken-preserved
taken-preserved c = let i = c.taken.invariant in let x = c.in-Some.waiter in let t = c.in-Some.ensures.0 in let v = c.args.waiters.now in let w = c.take_oldest.new.self in record {
  gone = (
    i.gone.0 ++ x ∷ [],
    takes_more i.gone.0 x v c.taken.waiters w i.gone.1 t,
    (let l = length-append i.gone.0 (x ∷ []) in let k = i.gone.2 in omega arith),
    told_more i.gone.0 x c.args.log.now.seat.me.0.parkers c.taken.log.seat.me.0.parkers c.notify_before_wake.new.log.seat.me.0.parkers i.gone.3 c.notify_before_wake.ensures.notified,
  );
  parked = gathers_more c.args.parked.now c.taken.parked c.notify_before_wake.new.parked c.args.log.now.seat.me.0.parked c.taken.log.seat.me.0.parked c.notify_before_wake.new.log.seat.me.0.parked i.parked c.notify_before_wake.ensures.parked;
  of = (t.4.0 ∙ i.of.0, ap (λ y. y.root.table_id) t.4.1 ∙ i.of.1);
  log = c.notify_before_wake.ensures.log ∙ i.log;
}
