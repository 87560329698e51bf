use Rattle.lfm_test_tools.proofs.Pushing.{all_and_last}
use Rattle.lfm_test_tools.specs.Parts.{OfShared}
use Rattle.lfm_test_tools.proofs.two_condvars.dealing.dealt.Goals as goal

pub dealing-preserved : goal.dealing-preserved
dealing-preserved c = record {
  seats = c.last_seat.ensures.rest;
  first = c.last_cond_seat.ensures.rest;
  second = c.last_cond_seat-in-dealing.ensures.rest;
  parts = all_and_last (λ p. OfShared p c.args.shared.now) c.dealing.parts.items c.push.new.self.items _ c.in-Ok.ensures.items (record {
    seat = c.in_ok-seat.ensures.one;
    first = c.in_ok-first.ensures.one;
    second = c.in_ok-second.ensures.one;
    first_wide = c.requires.wide.0;
    second_wide = c.requires.wide.1;
  }) c.dealing.invariant.parts;
}
