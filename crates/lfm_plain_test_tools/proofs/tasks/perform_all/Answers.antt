use Rattle.std.proofs.Common.{arith, subst, sym}
use Rattle.lfm_plain_test_tools.specs.declared.hands.Hand.{Hand}
use Rattle.lfm_plain_test_tools.specs.Hands.{IsHandOf}
use Rattle.lfm_plain_test_tools.proofs.tasks.perform_all.Goals as goal

-- each thread gets a hand of this mutex and this condvar
pub map_vec-requires-after_bounds : goal.map_vec-requires-after_bounds
map_vec-requires-after_bounds g c κs within = λ i x lt is. subst (λ (h : Hand). IsHandOf h c.args.mutex.now c.args.condvar.now) (sym is) (c.requires i x lt)

-- each thread handed its hand back
pub returns : goal.returns
returns g c = λ i d h. let l = c.in_ok-hands.ensures.len in let a = c.in_ok-hands.hands.ok.0 in let b = c.args.hands.ok.0 in
    (c.in_ok-hands.ensures.each i d (omega arith)).1.call.met
