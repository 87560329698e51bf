use Rattle.std.proofs.Common.{sym, ◌∙◌}
use Rattle.lfm_plain_condvar.proofs.condvar.PlainCondvar.wake_all.Goals as goal

pub returns-clause-belongs : goal.returns-clause-belongs
returns-clause-belongs g c = let b = c.requires.belongs in let t = c.notify_all_in_one_hold.ensures in let h = t.held in
    (((t.belongs.0 ∙ b.0.0.0, t.belongs.1 ∙ b.0.0.1), t.kept, t.log ∙ b.0.2), (b.1.0, b.1.1, b.1.2 ∙ sym h.2.number, b.1.3))
