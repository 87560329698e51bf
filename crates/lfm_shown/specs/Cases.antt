-- The abstract cases of the laws that the program's cases name.
use Rattle.std.specs.Prelude.{Option, Some, None}
use Rattle.lfm_model.specs.AbstractRuns as Abstract
use Rattle.lfm_shown.specs.declared.cases.Case.{Case}
use Rattle.lfm_shown.specs.declared.cases.Case.TheVariants.{Ask, Queue, Serve, Post, Take, Accept, TakeUp, Enter, Release, Leave}

-- the abstract case that has this name
abbrev pub named_case : Case → Abstract.Case
named_case Ask = Abstract.ask
named_case Queue = Abstract.queue
named_case Serve = Abstract.serve
named_case Post = Abstract.post
named_case Take = Abstract.take
named_case Accept = Abstract.accept
named_case TakeUp = Abstract.take_up
named_case Enter = Abstract.enter
named_case Release = Abstract.release
named_case Leave = Abstract.leave

-- the same for an optional case
abbrev pub abstract_case : Option Case → Option Abstract.Case
abstract_case None = None
abstract_case (Some case) = Some (named_case case)
