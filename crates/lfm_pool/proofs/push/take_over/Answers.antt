use Rattle.std.proofs.Common.{ap, sym, ◌∙◌, subst}
use Rattle.lfm_words.specs.Words.{handoff_word}
use Rattle.lfm_protocol.specs.declared.points.Point.{Point}
use Rattle.lfm_protocol.specs.Stores.{expected_handoff_at}
use Rattle.lfm_pool.specs.Handoff.{SameTried, forgetting, tried_post, tries_post}
use Rattle.lfm_pool.specs.Seats.{state_of}
use Rattle.lfm_pool.proofs.Pushing.{took_over}
use Rattle.lfm_pool.proofs.push.take_over.Goals as goal

pub handoff_exchange-requires-clause-may : goal.handoff_exchange-requires-clause-may
handoff_exchange-requires-clause-may c = record { belongs = c.requires.belongs; mutex = c.requires.mutex; sits = c.requires.sits; elsewhere = c.requires.elsewhere }

pub handoff_exchange-requires-clause-at : goal.handoff_exchange-requires-clause-at
handoff_exchange-requires-clause-at c = ap tries_post c.requires.at.1

pub handoff_exchange-requires-clause-expected : goal.handoff_exchange-requires-clause-expected
handoff_exchange-requires-clause-expected c =
    let s = c.args.seat.now in c.requires.at.2 ∙ ap (λ (q : Point). handoff_word (tried_post s.number s.place.me.0 q)) (sym c.requires.at.1)

pub returns-clause-takes : goal.returns-clause-takes
returns-clause-takes c =
    let s = c.args.seat.now in let d = c.handoff_exchange.ensures.step in let at = c.requires.at in (
      at.0,
      d.0,
      at.1,
      took_over s.number s.place.id c.args.mutex c.args.pool.now.limits (forgetting s.place.me) c.handoff_exchange.new.seat.place.me d.0 at.0 at.1 c.requires.sits d.1,
      subst (λ (q : Point). SameTried q s.place.me.0 c.args.post (handoff_word (expected_handoff_at (state_of s c.args.mutex) s.number q)) c.handoff_exchange.result d.0) at.1 d.2,
      d.3,
    )
