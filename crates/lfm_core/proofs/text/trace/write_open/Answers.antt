use Rattle.lfm_core.proofs.text.trace.write_open.Goals as goal

pub returns-in-Begin : goal.returns-in-Begin
returns-in-Begin g c = rw c.in-Begin.is c.write_text.ensures
