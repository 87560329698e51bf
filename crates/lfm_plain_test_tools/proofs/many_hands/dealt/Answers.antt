use Rattle.std.proofs.Common.{ℕ}
use Rattle.lfm_mutex.proofs.Lists.{all_by_place, and_last, each_of_all}
use Rattle.lfm_plain_test_tools.specs.declared.hands.Hand.{Hand}
use Rattle.lfm_plain_test_tools.specs.Hands.{IsHandOf}
use Rattle.lfm_plain_test_tools.proofs.many_hands.dealt.Goals as goal

pub dealing-preserved : goal.dealing-preserved
dealing-preserved c = record {
  seats = c.last_seat.ensures.rest;
  plain = c.last_plain_seat.ensures.rest;
  hands = all_by_place (λ (h : Hand). IsHandOf h c.args.mutex.now c.args.condvar.now) c.push.new.self.items
      (and_last (λ (j : ℕ) (h : Hand). IsHandOf h c.args.mutex.now c.args.condvar.now) c.dealing.hands.items c.push.new.self.items _ c.in-Ok.ensures.items
      (c.in_ok-seat.ensures.one, c.in_ok-cond.ensures.one) (each_of_all (λ (h : Hand). IsHandOf h c.args.mutex.now c.args.condvar.now) c.dealing.hands.items c.dealing.invariant.hands));
}
