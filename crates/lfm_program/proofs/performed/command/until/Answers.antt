use Rattle.std.proofs.Common.{[], append-nil, refl, sym, ◌∙◌}
use Rattle.lfm_script.specs.declared.script.Command.TheVariants.{Until}
use Rattle.lfm_monitor.specs.Belongs.{mine_of, pass_sight, seen_of, share_of}
use Rattle.lfm_program.specs.Performs.{own_adds}
use Rattle.lfm_program.proofs.Commands.{added_nothing, entered, followed, left}
use Rattle.lfm_program.proofs.Refusing.{cause_left, takes_left}
use Rattle.lfm_program.proofs.performed.command.until.Goals as goal

pub returns-clause-adds : goal.returns-clause-adds
returns-clause-adds g c = let s = pass_sight c.args.pass.now in let t = pass_sight c.enter.new.pass in let u = pass_sight c.wait_for-waited.new.pass in let v = pass_sight c.leave.new.pass in
    let e = entered (share_of c.args.monitor.now) s t (mine_of c.args.pass.now) (mine_of c.enter.new.pass) c.in_ok-enter.field-0 c.requires.idle c.in_ok-enter.ensures.enters in
    let l = left u v (seen_of c.wait_for-waited.new.pass) (seen_of c.leave.new.pass) c.leave.result c.wait_for-waited.ensures.holds c.leave.ensures.leaves in
    added_nothing (Until c.args.condition c.args.bound) s v c.wait_for-waited.result refl
    (followed s t v [] [] e.0 (followed t u v [] [] (record { number = c.wait_for-waited.ensures.number; adds_are = c.wait_for-waited.ensures.adds ∙ sym (append-nil (own_adds t)) }) l.0))

pub returns-clause-refused : goal.returns-clause-refused
returns-clause-refused g c = let u = pass_sight c.wait_for-waited.new.pass in let v = pass_sight c.leave.new.pass in let held = c.wait_for-waited.ensures.holds in
    let l = left u v (seen_of c.wait_for-waited.new.pass) (seen_of c.leave.new.pass) c.leave.result held c.leave.ensures.leaves in
    let takes = takes_left u v (seen_of c.wait_for-waited.new.pass) (seen_of c.leave.new.pass) c.leave.result held c.leave.ensures.leaves in
    cause_left c.args.monitor.now c.wait_for-waited.new.pass c.leave.new.pass c.args.condition c.args.bound c.wait_for-waited.result l.0.number takes c.leave.ensures.mine
    c.leave.ensures.conditions.0 c.wait_for-waited.ensures.refused

pub returns-clause-idle : goal.returns-clause-idle
returns-clause-idle g c =
    let u = pass_sight c.wait_for-waited.new.pass in let v = pass_sight c.leave.new.pass in
    (left u v (seen_of c.wait_for-waited.new.pass) (seen_of c.leave.new.pass) c.leave.result c.wait_for-waited.ensures.holds c.leave.ensures.leaves).1
