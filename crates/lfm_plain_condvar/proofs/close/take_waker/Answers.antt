use Rattle.std.proofs.Common.{◌≡◌, ℕ, ◌++◌, [], ◌∷◌, sym, ◌∙◌, ap, arith}
use Rattle.lfm_mutex.specs.calls.Sight.{sight}
use Rattle.lfm_plain_condvar.specs.declared.parkers.Waker.{Waker}
use Rattle.lfm_plain_condvar.proofs.close.take_waker.Goals as goal

pub gather-requires : goal.gather-requires
gather-requires c = let b = c.requires.has.0 in let high = c.requires.has.1 in
    let same : b.0 ≡ c.in-Some.waker = (let p = c.replace.ensures.value in let q = c.in-Some.is in let r = b.1 in cc) in
    let n : c.in-Some.waker.number ≡ (sight c.args.seat.now.seat).number = ap (λ (z : Waker). z.number) (sym same) ∙ b.2 in
    record { waker = (omega arith, ap (λ (z : Waker). z.seat.table_id) (sym same) ∙ b.3); all = c.requires.all }

pub returns-clause-has : goal.returns-clause-has
returns-clause-has c = let b = c.requires.has.0 in
    let same : b.0 ≡ c.in-Some.waker = (let p = c.replace.ensures.value in let q = c.in-Some.is in let r = b.1 in cc) in
    let n : c.in-Some.waker.number ≡ (sight c.args.seat.now.seat).number = ap (λ (z : Waker). z.number) (sym same) ∙ b.2 in
    c.gather.ensures.has ∙ ap (λ (k : ℕ). c.args.all.now.seat.me.0.wakers ++ k ∷ []) n
