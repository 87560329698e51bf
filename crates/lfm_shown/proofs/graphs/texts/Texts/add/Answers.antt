use Rattle.std.proofs.Common.{◌∙◌, ◌++◌, ap, map}
use Rattle.lfm_shown.specs.Printed.{new_text}
use Rattle.lfm_shown.proofs.Named.{stored_text}
use Rattle.lfm_shown.proofs.PrintedTexts.{keys_grown}
use Rattle.lfm_shown.proofs.graphs.texts.Texts.add.Goals as goal

pub returns-clause-named : goal.returns-clause-named
returns-clause-named c =
    let s = c.in_ok-number.ensures.stored in
    stored_text (λ v. v.items) c.insert_full.new.self.keys c.in_ok-number.number s.0 c.args.text.items s.1 s.2

pub returns-clause-all : goal.returns-clause-all
returns-clause-all c =
    ap (map (λ v. v.items)) c.in_ok-number.ensures.keys ∙ keys_grown (λ v. v.items) c.self.inside.printed.keys c.args.text
    ∙ ap (λ l. l ++ new_text l c.args.text.items) c.self.view_is
