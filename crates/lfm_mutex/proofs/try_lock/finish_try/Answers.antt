use Rattle.std.proofs.Common.{◌≡◌, rules, ap, subst}
use Rattle.lfm_protocol.specs.declared.answers.Answer.{Answer}
use Rattle.lfm_protocol.specs.declared.answers.Turn.{Turn}
use Rattle.lfm_protocol.specs.declared.answers.Turn.TheVariants.{Ended}
use Rattle.lfm_mutex.specs.calls.FastPath.{Course}
use Rattle.lfm_mutex.specs.calls.WakeUps.{may_grant}
use Rattle.lfm_mutex.proofs.try_lock.finish_try.Goals as goal

pub expect_none-requires : goal.expect_none-requires
expect_none-requires g c = c.finish-turn.ensures.none (ap may_grant c.requires.tries)

pub returns-in-Ended-Locked-clause-made : goal.returns-in-Ended-Locked-clause-made
returns-in-Ended-Locked-clause-made g c = let s = c.args.seat.now in let r = c.finish-turn.new.seat in let f = c.finish-turn.ensures in
    let e : c.finish-turn.result.0 ≡ Ended (Answer.Locked c.in-Ended-Locked.locked) = search rules in
    subst (λ (x : Turn). Course g.T.Kept.follows g.T.Kept.fits s.table_seat.number s.state s.table_seat.moving s.table_seat.place.me.0 x r.state r.table_seat.moving r.table_seat.place.me.0) e
    f.finishes.made
