use Rattle.std.proofs.Common.{ap, subst, sym, ◌∙◌}
use Rattle.lfm_model.specs.declared.objects.TotalOp.TheVariants.{Add}
use Rattle.lfm_model.specs.Totals.{total_after, total_reply}
use Rattle.lfm_monitor.specs.Belongs.{mine_of, pass_sight, seen_of, share_of}
use Rattle.lfm_script.specs.declared.script.Command.TheVariants.{Add as AddNumber}
use Rattle.lfm_mutex.specs.Close.{Idle}
use Rattle.lfm_program.specs.Causes.{HasCause}
use Rattle.lfm_program.specs.Performs.{HoldsOnce}
use Rattle.lfm_program.proofs.AddRefused.{not_added, not_entered_to_add, passed_on}
use Rattle.lfm_program.proofs.Commands.{applied, entered, failed, followed, left, not_applied, not_entered, stays}
use Rattle.lfm_program.proofs.performed.command.add.Goals as goal

pub returns-in_err-enter-clause-idle : goal.returns-in_err-enter-clause-idle
returns-in_err-enter-clause-idle g c = let share = share_of c.args.monitor.now in let s = pass_sight c.args.pass.now in let t = pass_sight c.enter.new.pass in
    let same = not_entered share s t (mine_of c.args.pass.now) (mine_of c.enter.new.pass) c.in_err-enter.field-0.0 c.in_err-enter.ensures.enters in
    subst Idle (sym same) c.requires.idle

pub returns-in_err-enter-clause-number : goal.returns-in_err-enter-clause-number
returns-in_err-enter-clause-number g c = let share = share_of c.args.monitor.now in let s = pass_sight c.args.pass.now in let t = pass_sight c.enter.new.pass in
    let same = not_entered share s t (mine_of c.args.pass.now) (mine_of c.enter.new.pass) c.in_err-enter.field-0.0 c.in_err-enter.ensures.enters in
    ap (λ x. x.number) same

pub returns-in_err-enter-clause-adds : goal.returns-in_err-enter-clause-adds
returns-in_err-enter-clause-adds g c = let share = share_of c.args.monitor.now in let s = pass_sight c.args.pass.now in let t = pass_sight c.enter.new.pass in
    let same = not_entered share s t (mine_of c.args.pass.now) (mine_of c.enter.new.pass) c.in_err-enter.field-0.0 c.in_err-enter.ensures.enters in
    failed (AddNumber c.args.number) s t c.from_residual.result c.from_residual.ensures.0 (stays s t same)

pub returns-in_err-enter-clause-refused : goal.returns-in_err-enter-clause-refused
returns-in_err-enter-clause-refused g c = let m = c.args.monitor.now in let q = c.enter.new.pass in let r = c.in_err-enter.field-0.0 in
    passed_on (λ x. HasCause (AddNumber c.args.number) m q x) r c.from_residual.result (not_entered_to_add m c.args.pass.now q c.args.number r c.requires.idle c.in_err-enter.ensures.enters) c.from_residual.ensures.1

pub returns-in_err-added-clause-idle : goal.returns-in_err-added-clause-idle
returns-in_err-added-clause-idle g c = let share = share_of c.args.monitor.now in let s = pass_sight c.args.pass.now in let t = pass_sight c.enter.new.pass in let u = pass_sight c.apply-added.new.pass in let v = pass_sight c.leave.new.pass in
    let e = entered share s t (mine_of c.args.pass.now) (mine_of c.enter.new.pass) c.in_ok-enter.field-0 c.requires.idle c.in_ok-enter.ensures.enters in
    let same = not_applied total_after total_reply share (Add c.args.number) t u (mine_of c.enter.new.pass) (mine_of c.apply-added.new.pass) c.in_err-added.field-0.0 c.in_err-added.ensures.applies in let held = subst HoldsOnce (sym same) e.1 in
    let l = left u v (seen_of c.apply-added.new.pass) (seen_of c.leave.new.pass) c.leave.result held c.leave.ensures.leaves in l.1

pub returns-in_err-added-clause-number : goal.returns-in_err-added-clause-number
returns-in_err-added-clause-number g c = let share = share_of c.args.monitor.now in let s = pass_sight c.args.pass.now in let t = pass_sight c.enter.new.pass in let u = pass_sight c.apply-added.new.pass in let v = pass_sight c.leave.new.pass in
    let e = entered share s t (mine_of c.args.pass.now) (mine_of c.enter.new.pass) c.in_ok-enter.field-0 c.requires.idle c.in_ok-enter.ensures.enters in
    let same = not_applied total_after total_reply share (Add c.args.number) t u (mine_of c.enter.new.pass) (mine_of c.apply-added.new.pass) c.in_err-added.field-0.0 c.in_err-added.ensures.applies in let held = subst HoldsOnce (sym same) e.1 in
    let l = left u v (seen_of c.apply-added.new.pass) (seen_of c.leave.new.pass) c.leave.result held c.leave.ensures.leaves in l.0.number ∙ (ap (λ x. x.number) same ∙ e.0.number)

pub returns-in_err-added-clause-refused : goal.returns-in_err-added-clause-refused
returns-in_err-added-clause-refused g c = let share = share_of c.args.monitor.now in let s = pass_sight c.args.pass.now in let t = pass_sight c.enter.new.pass in
    let e = entered share s t (mine_of c.args.pass.now) (mine_of c.enter.new.pass) c.in_ok-enter.field-0 c.requires.idle c.in_ok-enter.ensures.enters in
    let m = c.args.monitor.now in let v = c.leave.new.pass in let r = c.in_err-added.field-0.0 in
    passed_on (λ x. HasCause (AddNumber c.args.number) m v x) r c.from_residual-in_err-added.result (not_added total_after total_reply m c.enter.new.pass c.apply-added.new.pass v (Add c.args.number) c.args.number r e.1 c.in_err-added.ensures.applies c.leave.ensures.mine) c.from_residual-in_err-added.ensures.1

pub returns-clause-idle : goal.returns-clause-idle
returns-clause-idle g c = let share = share_of c.args.monitor.now in let s = pass_sight c.args.pass.now in let t = pass_sight c.enter.new.pass in let u = pass_sight c.apply-added.new.pass in let v = pass_sight c.leave.new.pass in
    let e = entered share s t (mine_of c.args.pass.now) (mine_of c.enter.new.pass) c.in_ok-enter.field-0 c.requires.idle c.in_ok-enter.ensures.enters in
    let a = applied total_after total_reply share (Add c.args.number) t u (mine_of c.enter.new.pass) (mine_of c.apply-added.new.pass) c.in_ok-added.field-0 e.1 c.in_ok-added.ensures.applies in
    let l = left u v (seen_of c.apply-added.new.pass) (seen_of c.leave.new.pass) c.leave.result a.1 c.leave.ensures.leaves in l.1

pub returns-clause-number : goal.returns-clause-number
returns-clause-number g c = let share = share_of c.args.monitor.now in let s = pass_sight c.args.pass.now in let t = pass_sight c.enter.new.pass in let u = pass_sight c.apply-added.new.pass in let v = pass_sight c.leave.new.pass in
    let e = entered share s t (mine_of c.args.pass.now) (mine_of c.enter.new.pass) c.in_ok-enter.field-0 c.requires.idle c.in_ok-enter.ensures.enters in
    let a = applied total_after total_reply share (Add c.args.number) t u (mine_of c.enter.new.pass) (mine_of c.apply-added.new.pass) c.in_ok-added.field-0 e.1 c.in_ok-added.ensures.applies in
    let l = left u v (seen_of c.apply-added.new.pass) (seen_of c.leave.new.pass) c.leave.result a.1 c.leave.ensures.leaves in l.0.number ∙ (a.0.number ∙ e.0.number)

pub returns-in_err-added-clause-adds : goal.returns-in_err-added-clause-adds
returns-in_err-added-clause-adds g c = let share = share_of c.args.monitor.now in let s = pass_sight c.args.pass.now in let t = pass_sight c.enter.new.pass in let u = pass_sight c.apply-added.new.pass in
    let e = entered share s t (mine_of c.args.pass.now) (mine_of c.enter.new.pass) c.in_ok-enter.field-0 c.requires.idle c.in_ok-enter.ensures.enters in
    let same = not_applied total_after total_reply share (Add c.args.number) t u (mine_of c.enter.new.pass) (mine_of c.apply-added.new.pass) c.in_err-added.field-0.0 c.in_err-added.ensures.applies in
    let held = subst HoldsOnce (sym same) e.1 in let v = pass_sight c.leave.new.pass in
    let l = left u v (seen_of c.apply-added.new.pass) (seen_of c.leave.new.pass) c.leave.result held c.leave.ensures.leaves in
    failed (AddNumber c.args.number) s v c.from_residual-in_err-added.result c.from_residual-in_err-added.ensures.0 (followed s t v _ _ e.0 (followed t u v _ _ (stays t u same) l.0))

pub returns-clause-adds : goal.returns-clause-adds
returns-clause-adds g c = let share = share_of c.args.monitor.now in let s = pass_sight c.args.pass.now in let t = pass_sight c.enter.new.pass in let u = pass_sight c.apply-added.new.pass in
    let v = pass_sight c.leave.new.pass in
    let e = entered share s t (mine_of c.args.pass.now) (mine_of c.enter.new.pass) c.in_ok-enter.field-0 c.requires.idle c.in_ok-enter.ensures.enters in
    let a = applied total_after total_reply share (Add c.args.number) t u (mine_of c.enter.new.pass) (mine_of c.apply-added.new.pass) c.in_ok-added.field-0 e.1 c.in_ok-added.ensures.applies in
    let l = left u v (seen_of c.apply-added.new.pass) (seen_of c.leave.new.pass) c.leave.result a.1 c.leave.ensures.leaves in
    (followed s t v _ _ e.0 (followed t u v _ _ a.0 l.0)).adds_are
