use Rattle.std.proofs.Common.{None, ap, ◌∙◌}
use Rattle.lfm_model.specs.Journals.{after_all, one_to}
use Rattle.lfm_model.proofs.JournalLists.{lawful_stamps}
use Rattle.lfm_mutex.specs.calls.Sight.{sight}
use Rattle.lfm_monitor.proofs.Knowing.{some_of}
use Rattle.lfm_monitor.proofs.laws.holds_are_legal.Goals as goal

pub returns : goal.returns
returns g c v is = let p = c.args.pass.now in let l = some_of (sight p.seat).last p.kept.there in let h = p.kept.holds v is in
    (v.legal ∙ ap (λ o. after_all g.O.Object.after o v.journal.items) ((h.follow l.0 l.1).0.0 ∙ (c.requires.belongs.1 l.0 l.1).0), v.lawful, lawful_stamps None 0 v.journal.items v.lawful ∙ ap (λ n. one_to n) h.fit)
