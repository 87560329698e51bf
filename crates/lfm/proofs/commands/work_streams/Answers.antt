use Rattle.lfm.proofs.commands.work_streams.Goals as goal

pub returns : goal.returns
returns g c stuck = (c.work.ensures.stuck stuck).1.3.2
