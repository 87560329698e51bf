use Rattle.std.proofs.Common.{◌≡◌, ◌<◌, sym, ◌∙◌, ap, subst, arith, get_or}
use mathlib.Core.Option.{some, some-injective}
use mathlib.Core.Logic.{dite}
use native.Mathlib.Decide.{ℕ_discrete}
use lib.ListN.{get_elem?}
use Rattle.atomic_table.proofs.Lists.{set_else}
use Rattle.lfm_mutex.specs.calls.Sight.{sight}
use Rattle.lfm_plain_condvar.specs.declared.plain_seat.PlainSeat.{PlainSeat}
use Rattle.lfm_plain_condvar.specs.Parkers.{times}
use Rattle.lfm_plain_condvar.proofs.Closing.{not_less, now_there, same_at, same_set}
use Rattle.lfm_plain_condvar.proofs.ListFacts.{found_at, within}
use Rattle.lfm_plain_condvar.proofs.close.take_wakers.Goals as goal

pub take_waker-requires : goal.take_waker-requires
take_waker-requires c = let i = c.gathered.invariant in let xs = c.gathered.seat-items in let n = c.gathered.seat-index in let v : PlainSeat = get_or xs n c.seat-item.result in
    let at : get_elem? xs n ≡ some v = found_at xs n c.seat-item.result (let t = c.gathered-test.true in let l = c.gathered.auto.seat-items in omega arith) c.seat-item.is ∙ ap some c.seat-item.is in
    record { has = c.requires.have n v (i.rest n v (omega arith) at); all = i.all }

-- one more waker was taken
pub gathered-preserved : goal.gathered-preserved
gathered-preserved c = let i = c.gathered.invariant in let xs = c.gathered.seat-items in let n = c.gathered.seat-index in let v : PlainSeat = get_or xs n c.seat-item.result in let w = c.take_waker.new.seat in let e = c.take_waker.ensures in
    let at : get_elem? xs n ≡ some v = found_at xs n c.seat-item.result (let t = c.gathered-test.true in let l = c.gathered.auto.seat-items in omega arith) c.seat-item.is ∙ ap some c.seat-item.is in record {
      same = same_set xs n v w at e.same ∙ i.same;
      rest = λ j s low there. i.rest j s (omega arith) (sym (set_else xs n j w (λ q. omega arith)) ∙ there);
      all = e.all ∙ i.all;
      has = λ j s h there. dite (ℕ_discrete j n)
          (λ q. let same : v ≡ s = some-injective v s (sym (i.rest n v (omega arith) at) ∙ ap (λ k. get_elem? c.args.seats.now.items k) (sym q) ∙ there) in
          subst (λ (p : PlainSeat). 0 < times (sight p.seat).number c.take_waker.new.all.seat.me.0.wakers) same (now_there c.gathered.all.seat.me.0.wakers c.take_waker.new.all.seat.me.0.wakers (sight v.seat).number e.has))
          (λ ne. not_less (sight s.seat).number c.gathered.all.seat.me.0.wakers c.take_waker.new.all.seat.me.0.wakers (sight v.seat).number e.has (i.has j s (omega arith) there));
    }

pub returns-clause-has : goal.returns-clause-has
returns-clause-has c = let i = c.gathered.invariant in λ j s there.
    let a = same_at c.gathered.seat-items c.args.seats.now.items (sym i.same) j s there in let h = within c.gathered.seat-items j a.0 a.1 in
    i.has j s (let t = c.gathered-test.false in let l = c.gathered.auto.seat-items in omega arith) there
