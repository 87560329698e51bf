use Rattle.lfm_shown.proofs.Named.{stored_text}
use Rattle.lfm_states.proofs.printing.Printer.add_key.Goals as goal

pub returns-clause-number : goal.returns-clause-number
returns-clause-number c =
    let s = c.in_ok-added.ensures.stored in
    stored_text (λ v. v.items) c.insert_full.new.self.keys c.in_ok-added.added.0 s.0 c.args.key.items s.1 s.2
