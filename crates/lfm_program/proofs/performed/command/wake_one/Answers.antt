use Rattle.std.proofs.Common.{rules, ◌≡◌, Err}
use Rattle.lfm_program.proofs.Refusing.{not_woke_one}
use Rattle.lfm_program.proofs.performed.command.wake_one.Goals as goal

pub returns-in_err-wake_one-clause-refused : goal.returns-in_err-wake_one-clause-refused
returns-in_err-wake_one-clause-refused g c = let e : c.from_residual.result ≡ Err c.in_err-wake_one.field-0.0 = search rules in
    rw e (λ sent. not_woke_one c.args.monitor.now c.args.pass.now c.wake_one.new.pass c.args.condition c.in_err-wake_one.field-0.0 c.requires.idle (c.in_err-wake_one.ensures.wakes sent))
