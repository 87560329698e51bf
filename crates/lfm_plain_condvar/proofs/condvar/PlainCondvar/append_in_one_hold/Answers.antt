use Rattle.lfm_mutex.specs.Belongs.{limits_of, tries_of}
use Rattle.lfm_mutex.specs.calls.Sight.{sight}
use Rattle.lfm_plain_condvar.specs.Belongs.{parkers_of, seats_of}
use Rattle.lfm_plain_condvar.proofs.ListedWaits.{adds_wait}
use Rattle.lfm_plain_condvar.proofs.OneHold.{held_by, may_leave_it, one_hold, still_held, woken_in_hold}
use Rattle.lfm_plain_condvar.proofs.condvar.PlainCondvar.append_in_one_hold.Goals as goal

pub leave_list-requires-clause-held : goal.leave_list-requires-clause-held
leave_list-requires-clause-held g c = let a = c.args in let h = c.lock_list.ensures.held in let e = c.append_in_hand-done.ensures.does in
    still_held (parkers_of a.self.now) (seats_of a.self.now) (limits_of a.self.now.inner).budget (sight a.cond.now) (sight c.lock_list.new.cond) (sight c.append_in_hand-done.new.cond) h.0 e.0 e.1 h.1 e.2

pub leave_list-requires-clause-leaves : goal.leave_list-requires-clause-leaves
leave_list-requires-clause-leaves g c = let a = c.args in let h = c.lock_list.ensures.held in let e = c.append_in_hand-done.ensures.does in
    may_leave_it (parkers_of a.self.now) (seats_of a.self.now) (limits_of a.self.now.inner).budget (sight a.cond.now) (sight c.lock_list.new.cond) (sight c.append_in_hand-done.new.cond) h.0 e.0 e.1 h.1 e.2

pub returns-clause-held : goal.returns-clause-held
returns-clause-held g c = let a = c.args in let h = c.lock_list.ensures.held in let e = c.append_in_hand-done.ensures.does in let l = c.leave_list.ensures in
    let d = one_hold (parkers_of a.self.now) (seats_of a.self.now) (limits_of a.self.now.inner).budget (sight a.cond.now) (sight c.lock_list.new.cond) (sight c.append_in_hand-done.new.cond) (sight c.leave_list.new.cond) h.0 e.0 e.1 h.1 e.2 l.leaves l.keeps.0 l.keeps.1 in
    (e.0, e.1, d.held, adds_wait c.args.waker e.0 e.1 c.append_in_hand-done.result c.listed.result e.3 c.listed.ensures)

pub returns-clause-kept : goal.returns-clause-kept
returns-clause-kept g c = let a = c.args in let h = c.lock_list.ensures.held in let e = c.append_in_hand-done.ensures.does in let l = c.leave_list.ensures in
    (one_hold (parkers_of a.self.now) (seats_of a.self.now) (limits_of a.self.now.inner).budget (sight a.cond.now) (sight c.lock_list.new.cond) (sight c.append_in_hand-done.new.cond) (sight c.leave_list.new.cond) h.0 e.0 e.1 h.1 e.2 l.leaves l.keeps.0 l.keeps.1).kept

pub returns-clause-woken : goal.returns-clause-woken
returns-clause-woken g c = let h = c.append_in_hand-done in
    woken_in_hold c.args.cond.now c.lock_list.new.cond h.new.cond c.leave_list.new.cond h.ensures.does.0 h.ensures.does.1 c.lock_list.ensures.woken h.ensures.woken h.ensures.does.2 c.leave_list.ensures.woken

pub returns-clause-steps : goal.returns-clause-steps
returns-clause-steps g c = let a = c.args in let e = c.append_in_hand-done.ensures.does in
    held_by (limits_of a.self.now.inner) (tries_of a.self.now.inner) (sight a.cond.now) (sight c.lock_list.new.cond) (sight c.append_in_hand-done.new.cond) (sight c.leave_list.new.cond) e.0 e.1 c.lock_list.ensures.steps e.2 c.leave_list.ensures.steps
