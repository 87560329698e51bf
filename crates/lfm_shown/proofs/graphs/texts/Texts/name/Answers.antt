use Rattle.lfm_shown.proofs.Named.{named_then}
use Rattle.lfm_shown.proofs.graphs.texts.Texts.name.Goals as goal

pub returns-clause-named : goal.returns-clause-named
returns-clause-named g c = λ known named. rw c.in_ok-push_number.ensures
    (named_then c.args.self.now c.number_of.new.self c.number_of.ensures.kept c.args.numbers.now.items known c.in_ok-number.number c.args.text.items named c.in_ok-number.ensures.named)
