use Rattle.std.proofs.Common.{refl}
use Rattle.std.specs.Fn.{FnReturnsAt}
use Rattle.lfm_mutex.specs.calls.Sight.{sight}
use Rattle.lfm_mutex.proofs.ConditionEnds.{looked}
use Rattle.lfm_mutex.proofs.conditions.must_wait.Goals as goal

pub returns-in-Some : goal.returns-in-Some
returns-in-Some g c = let said : FnReturnsAt g.F.Fn c.args.condition.now c.in-Some.value.now c.condition.result = record { shown = c.in-Some.value; shows = refl; says = record { met = c.condition.ensures } } in
    looked (λ v b. FnReturnsAt g.F.Fn c.args.condition.now v b) (sight c.args.seat.now) c.in-Some.value.now c.condition.result c.in-Some.ensures.1 said
