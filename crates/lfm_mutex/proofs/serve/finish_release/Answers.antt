use Rattle.std.proofs.Common.{◌≡◌, rules, subst, ◌∙◌}
use Rattle.lfm_protocol.specs.declared.answers.Answer.{Answer}
use Rattle.lfm_protocol.specs.declared.answers.Turn.{Turn}
use Rattle.lfm_protocol.specs.declared.answers.Turn.TheVariants.{Ended}
use Rattle.lfm_mutex.specs.calls.Runs.{errand, Ends}
use Rattle.lfm_mutex.specs.calls.FastPath.{Course}
use Rattle.lfm_mutex.proofs.runs.ServePoints.{unlocks_as, waits_as}
use Rattle.lfm_mutex.proofs.serve.finish_release.Goals as goal

pub returns-in-Ended-Unlocked-clause-finishes : goal.returns-in-Ended-Unlocked-clause-finishes
returns-in-Ended-Unlocked-clause-finishes g c =
    let s = c.args.seat.now in let r = c.finish-turn.new.seat in let f = c.finish-turn.ensures in let x = c.in-Ended-Unlocked.released in
    let e : c.finish-turn.result.0 ≡ Ended (Answer.Unlocked x) = search rules in
    let is = subst (λ (z : Turn). Ends (errand s.state.point) z) e f.ends ∙ c.requires.releases in
    record {
      kept = search rules;
      wakes = search rules;
      made = subst (λ (z : Turn). Course g.T.Kept.follows g.T.Kept.fits s.table_seat.number s.state s.table_seat.moving s.table_seat.place.me.0 z r.state r.table_seat.moving r.table_seat.place.me.0) (e ∙ unlocks_as c.args.releaser x is)
          f.finishes.made;
    }

pub returns-in-Ended-Waiting-clause-finishes : goal.returns-in-Ended-Waiting-clause-finishes
returns-in-Ended-Waiting-clause-finishes g c =
    let s = c.args.seat.now in let r = c.finish-turn.new.seat in let f = c.finish-turn.ensures in let x = c.in-Ended-Waiting.released in
    let e : c.finish-turn.result.0 ≡ Ended (Answer.Waiting x) = search rules in
    let is = subst (λ (z : Turn). Ends (errand s.state.point) z) e f.ends ∙ c.requires.releases in
    record {
      kept = search rules;
      wakes = search rules;
      made = subst (λ (z : Turn). Course g.T.Kept.follows g.T.Kept.fits s.table_seat.number s.state s.table_seat.moving s.table_seat.place.me.0 z r.state r.table_seat.moving r.table_seat.place.me.0) (e ∙ waits_as c.args.releaser x is)
          f.finishes.made;
    }
