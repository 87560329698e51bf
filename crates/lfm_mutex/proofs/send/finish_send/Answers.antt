use Rattle.std.proofs.Common.{◌≡◌, rules, subst}
use Rattle.lfm_protocol.specs.declared.answers.Answer.{Answer}
use Rattle.lfm_protocol.specs.declared.answers.Turn.{Turn}
use Rattle.lfm_protocol.specs.declared.answers.Turn.TheVariants.{Ended, Refused}
use Rattle.lfm_protocol.specs.declared.answers.Why.{Why}
use Rattle.lfm_mutex.specs.calls.FastPath.{Course}
use Rattle.lfm_mutex.proofs.send.finish_send.Goals as goal

pub returns-in-Ended-Sent-clause-finishes : goal.returns-in-Ended-Sent-clause-finishes
returns-in-Ended-Sent-clause-finishes g c =
    let s = c.args.seat.now in let r = c.finish-turn.new.seat in let f = c.finish-turn.ensures in
    let e : c.finish-turn.result.0 ≡ Ended Answer.Sent = search rules in
    record {
      kept = search rules;
      wakes = search rules;
      made = subst (λ (x : Turn). Course g.T.Kept.follows g.T.Kept.fits s.table_seat.number s.state s.table_seat.moving s.table_seat.place.me.0 x r.state r.table_seat.moving r.table_seat.place.me.0) e
          f.finishes.made;
    }

pub returns-in-Refused-By-clause-finishes : goal.returns-in-Refused-By-clause-finishes
returns-in-Refused-By-clause-finishes g c =
    let s = c.args.seat.now in let r = c.finish-turn.new.seat in let f = c.finish-turn.ensures in
    let e : c.finish-turn.result.0 ≡ Refused (Why.By c.in-Refused-By.refusal) = search rules in
    record {
      kept = search rules;
      wakes = search rules;
      made = subst (λ (x : Turn). Course g.T.Kept.follows g.T.Kept.fits s.table_seat.number s.state s.table_seat.moving s.table_seat.place.me.0 x r.state r.table_seat.moving r.table_seat.place.me.0) e
          f.finishes.made;
    }
