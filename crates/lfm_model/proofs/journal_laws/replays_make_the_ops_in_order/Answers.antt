use Rattle.lfm_model.proofs.ReplayedOps.{folded, replies_counted, replied}
use Rattle.lfm_model.proofs.journal_laws.replays_make_the_ops_in_order.Goals as goal

pub returns-clause-object : goal.returns-clause-object
returns-clause-object g c = folded g.O.Object.after

pub returns-clause-count : goal.returns-clause-count
returns-clause-count g c = replies_counted g.O.Object.after g.O.Object.reply

pub returns-clause-reply : goal.returns-clause-reply
returns-clause-reply g c = replied g.O.Object.after g.O.Object.reply
