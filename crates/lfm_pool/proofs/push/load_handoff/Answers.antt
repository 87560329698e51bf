use Rattle.std.proofs.Common.{nat_eq, if◌then◌else◌, refl, ap}
use Rattle.lfm_words.specs.Words.{handoff_of}
use Rattle.lfm_protocol.specs.declared.points.Point.TheVariants.{Asleep, PushedHandoffLoad, PushedHandoffExchange}
use Rattle.lfm_protocol.specs.declared.points.Pusher.{Pusher}
use Rattle.lfm_protocol.specs.declared.points.Sleeper.TheVariants as Sleeper
use Rattle.lfm_pool.specs.Handoff.{forgetting, loads_handoff}
use Rattle.lfm_pool.proofs.Pushing.{after_handoff, one_step}
use Rattle.lfm_pool.proofs.push.load_handoff.Goals as goal

pub handoff_load-requires-clause-may : goal.handoff_load-requires-clause-may
handoff_load-requires-clause-may c = record { belongs = c.requires.belongs; mutex = c.requires.mutex; sits = c.requires.sits; elsewhere = c.requires.elsewhere }

pub handoff_load-requires-clause-at : goal.handoff_load-requires-clause-at
handoff_load-requires-clause-at c = ap loads_handoff c.requires.at

pub returns-clause-loads : goal.returns-clause-loads
returns-clause-loads c =
    let s = c.args.seat.now in let d = c.handoff_load.ensures.step in (
      d.0,
      one_step s.number s.place.id c.args.mutex c.args.pool.now.limits s.place.me (forgetting c.handoff_load.new.seat.place.me) d.0 (PushedHandoffLoad Pusher.Locker)
          (if nat_eq (handoff_of d.0).seat 0 then Asleep Sleeper.Locker else PushedHandoffExchange Pusher.Locker (handoff_of d.0)) c.requires.at (after_handoff s.number d.0) (λ e deep. deep) refl c.requires.sits d.1,
      d.2,
      d.3,
    )
