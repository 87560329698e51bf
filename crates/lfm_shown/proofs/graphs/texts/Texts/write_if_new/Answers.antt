use Rattle.std.proofs.Common.{sym}
use Rattle.lfm_shown.proofs.PrintedTexts.{known_written, new_written}
use Rattle.lfm_shown.proofs.graphs.texts.Texts.write_if_new.Goals as goal

pub returns-then-contains : goal.returns-then-contains
returns-then-contains g c =
    rw (← c.self.view_is) (known_written _ _ (λ v. v.items) c.self.inside.printed.keys c.args.text.now _ (sym c.if-contains.ensures) c.write_text.ensures)

pub returns-else-contains : goal.returns-else-contains
returns-else-contains g c =
    rw (← c.self.view_is) (new_written _ _ (λ v. v.items) c.self.inside.printed.keys c.args.text.now _ (sym c.if-contains.ensures) c.write_new_text.ensures)
