use Rattle.lfm_mutex.proofs.TableRuns.{trails_tell_the_answers, trails_tell_the_pushes}
use Rattle.lfm_mutex.proofs.run_laws.trails_tell_the_records.Goals as goal

pub returns-clause-pushes : goal.returns-clause-pushes
returns-clause-pushes g c = trails_tell_the_pushes g.T.Kept.follows g.T.Kept.fits

pub returns-clause-answers : goal.returns-clause-answers
returns-clause-answers g c = trails_tell_the_answers g.T.Kept.follows g.T.Kept.fits
