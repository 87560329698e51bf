use Rattle.std.proofs.Common.{List, ℕ, ap, sym, ◌∙◌}
use mathlib.Core.Option.{some-ne-none}
use lib.ListN.{get_elem?}
use Rattle.lfm_condvar.specs.declared.cond_seat.CondSeat.{CondSeat}
use Rattle.lfm_condvar.specs.Belongs.{OfCondvar}
use Rattle.lfm_condvar.proofs.Begins.{and_last}
use Rattle.lfm_condvar_tests.proofs.pairs.closed.Goals as goal

pub close-requires : goal.close-requires
close-requires c = let a = c.args in let P : ℕ → CondSeat → Type 0 = λ j s. OfCondvar s a.condvar in
    let one = and_last P a.room.items c.push.new.self.items a.first c.in-Ok.ensures.items c.requires.first (λ j y e. absurd (some-ne-none y (sym e ∙ ap (λ (ys : List CondSeat). get_elem? ys j) c.requires.empty))) in
    record { belongs = and_last P c.push.new.self.items c.push-2.new.self.items a.second c.in-Ok-push.ensures.items c.requires.second one }
