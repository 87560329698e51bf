use Rattle.std.proofs.Common.{rules, ◌≡◌, Err}
use Rattle.lfm_program.proofs.Refusing.{not_woke_all}
use Rattle.lfm_program.proofs.performed.command.wake_all.Goals as goal

pub returns-in_err-wake_all-clause-refused : goal.returns-in_err-wake_all-clause-refused
returns-in_err-wake_all-clause-refused g c = let e : c.from_residual.result ≡ Err c.in_err-wake_all.field-0.0 = search rules in
    rw e (λ sent. not_woke_all c.args.monitor.now c.args.pass.now c.wake_all.new.pass c.args.condition c.in_err-wake_all.field-0.0 c.requires.idle (c.in_err-wake_all.ensures.wakes sent))
