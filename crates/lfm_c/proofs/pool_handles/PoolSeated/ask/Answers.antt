use Rattle.std.proofs.Common.{◌≡◌, sym, subst}
use Rattle.std.specs.Arc.{arc_value}
use Rattle.lfm_pool.specs.declared.pool.Pool.{Pool}
use Rattle.lfm_pool.specs.Calls.{IsBetweenCalls}
use Rattle.lfm_c.proofs.BetweenCalls.{between}
use Rattle.lfm_c.proofs.pool_handles.PoolSeated.ask.Goals as goal

pub ask_without_waking-requires-clause-between : goal.ask_without_waking-requires-clause-between
ask_without_waking-requires-clause-between c =
    let seat = c.args.self.now.seat in let pool = arc_value c.args.self.now.pool in let is : c.deref.result.now ≡ pool = cc in
    subst (λ (p : Pool). IsBetweenCalls seat p) (sym is) (between seat pool c.args.self.now.between)
