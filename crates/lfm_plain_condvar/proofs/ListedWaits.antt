-- What an append to the list gives its caller.
use Rattle.std.proofs.Common.{Result, Ok, Err, sym, ◌∙◌, ap, subst}
use Rattle.lfm_plain_condvar.specs.declared.hold.append.ListedWait.{ListedWait}
use Rattle.lfm_plain_condvar.specs.declared.parkers.Waker.{Waker}
use Rattle.lfm_plain_condvar.specs.declared.waiters.Enlisted.{Enlisted}
use Rattle.lfm_plain_condvar.specs.declared.waiters.Waiters.{Waiters}
use Rattle.lfm_plain_condvar.specs.Keeping.{Adds, Puts}
use Rattle.lfm_plain_condvar.specs.ListedWaits.{AddsWait, IsListed}

pub adds_wait : {T : Type 0} (k : Waker) (v w : Waiters) (e : Result Enlisted Waker) (r : Result (ListedWait T) Waker) → Adds k v w e → IsListed k.number e r → AddsWait k v w r
adds_wait k v w (Ok e) (Ok l) a is = (is.0, subst (λ (x : Enlisted). Puts k x.ticket v w) (sym is.1) a.0, ap (λ (x : Enlisted). x.ahead) is.1 ∙ a.1)
adds_wait k v w (Err b) (Err back) a is = (is ∙ a.0, a.1, a.2)
adds_wait k v w (Ok e) (Err back) a is = absurd is
adds_wait k v w (Err b) (Ok l) a is = absurd is
