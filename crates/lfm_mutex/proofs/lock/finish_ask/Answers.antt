use Rattle.std.proofs.Common.{◌≡◌, rules, subst}
use Rattle.lfm_protocol.specs.declared.answers.Answer.{Answer}
use Rattle.lfm_protocol.specs.declared.answers.Turn.{Turn}
use Rattle.lfm_protocol.specs.declared.answers.Turn.TheVariants.{Ended}
use Rattle.lfm_mutex.specs.calls.FastPath.{Course}
use Rattle.lfm_mutex.proofs.lock.finish_ask.Goals as goal

pub returns-clause-finishes : goal.returns-clause-finishes
returns-clause-finishes g c =
    let s = c.args.seat.now in let r = c.finish-turn.new.seat in let f = c.finish-turn.ensures in
    let e : c.finish-turn.result.0 ≡ Ended (Answer.Asked c.in-Ended-Asked.asked) = search rules in
    record {
      kept = search rules;
      wakes = search rules;
      made = subst (λ (x : Turn). Course g.T.Kept.follows g.T.Kept.fits s.table_seat.number s.state s.table_seat.moving s.table_seat.place.me.0 x r.state r.table_seat.moving r.table_seat.place.me.0) e
          f.finishes.made;
    }
