use Rattle.lfm_mutex.specs.Belongs.{limits_of}
use Rattle.lfm_mutex.specs.calls.Sight.{sight}
use Rattle.lfm_condvar.specs.Belongs.{cond_limits, cond_sight, cond_tries}
use Rattle.lfm_condvar.proofs.HeldBack.{held_none}
use Rattle.lfm_condvar.proofs.OneHold.{held_by, one_hold, woken_in_hold}
use Rattle.lfm_condvar.proofs.Sent.{all_end}
use Rattle.lfm_mutex.proofs.runs.RunGoesOn.{run_same}
use Rattle.lfm_condvar.proofs.condvar.Condvar.send_all_in_one_hold.Goals as goal

pub returns-in-Err-clause-run : goal.returns-in-Err-clause-run
returns-in-Err-clause-run g c = run_same

pub returns-clause-sends : goal.returns-clause-sends
returns-clause-sends g c = let a = c.args in let h = c.in-Ok.ensures.held in let e = c.send_all_in_hand-sent.ensures.sends in let l = c.leave_list.ensures in
    let d = one_hold (cond_limits a.self.now) (cond_sight a.cond.now) (sight c.lock_list.new.cond) (sight c.send_all_in_hand-sent.new.cond) (sight c.leave_list.new.cond) h.0 e.0 e.1 h.1 e.2 l.leaves l.keeps.0 l.keeps.1 in
    let k = held_by (cond_limits a.self.now) (cond_tries a.self.now) (cond_sight a.cond.now) (sight c.lock_list.new.cond) (sight c.send_all_in_hand-sent.new.cond) (sight c.leave_list.new.cond) e.0 e.1 c.in-Ok.ensures.steps e.2 l.steps in
    all_end (limits_of a.mutex.now).seats (cond_limits a.self.now) (cond_tries a.self.now) (cond_sight a.cond.now) _ (sight a.seat.now) (sight c.send_all_in_hand-sent.new.seat) e.0 e.1 c.send_all_in_hand-sent.result.0 d.held k e.3

pub invariant_of-cond-2 : goal.invariant_of-cond-2
invariant_of-cond-2 g c = let a = c.args in let h = c.in-Ok.ensures.held in let e = c.send_all_in_hand-sent.ensures.sends in let l = c.leave_list.ensures in
    record { kept = (one_hold (cond_limits a.self.now) (cond_sight a.cond.now) (sight c.lock_list.new.cond) (sight c.send_all_in_hand-sent.new.cond) (sight c.leave_list.new.cond) h.0 e.0 e.1 h.1 e.2 l.leaves l.keeps.0 l.keeps.1).kept }

pub returns-clause-cond_woken : goal.returns-clause-cond_woken
returns-clause-cond_woken g c = let h = c.send_all_in_hand-sent in
    woken_in_hold c.args.cond.now.seat c.lock_list.new.cond h.new.cond c.leave_list.new.cond h.ensures.sends.0 h.ensures.sends.1 c.lock_list.ensures.woken h.ensures.cond_woken h.ensures.sends.2 c.leave_list.ensures.woken

pub returns-in-Err-clause-wakes : goal.returns-in-Err-clause-wakes
returns-in-Err-clause-wakes g c = held_none (limits_of c.args.mutex.now).seats c.args.seat.now
