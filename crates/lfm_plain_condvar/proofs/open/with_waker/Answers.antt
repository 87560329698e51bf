use Rattle.std.proofs.Common.{refl, arith}
use Rattle.lfm_plain_condvar.proofs.open.with_waker.Goals as goal

pub returns-in-Some : goal.returns-in-Some
returns-in-Some c = let r = c.in-Some.ensures in let a = r.0 in let v = c.get-number.ensures.value in let n = c.number.ensures in let l = c.new_log.ensures in
    (refl, (c.in-Some.waker, refl, omega arith, r.1), l.1, l.0, refl)
