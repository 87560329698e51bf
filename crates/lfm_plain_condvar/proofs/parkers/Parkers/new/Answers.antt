use Rattle.std.proofs.Common.{ℕ, List, map, sym, subst, arith}
use mathlib.Core.Option.{some}
use Rattle.lfm_plain_condvar.proofs.Rule.{Home, opened}
use Rattle.lfm_plain_condvar.proofs.parkers.Parkers.new.Goals as goal

pub new-requires : goal.new-requires
new-requires c = let a = c.in_ok-words.ensures.len in let b = c.in_ok-wakers.ensures.len in let p = c.in_ok-words.words.ok in let q = c.in_ok-wakers.wakers.ok in
    (subst (λ (ws : List ℕ). Home ws (map some c.in_ok-wakers.wakers.items)) (sym c.as_slice.ensures.value) (opened c.in_ok-words.words.items c.in_ok-wakers.wakers.items (omega arith)), λ k. (omega arith, λ two. omega arith))
