-- The outcome of a step from a steady state: the ghost after it, which fits the state after it; the abstract case between the
-- two ghosts; and how the lists of pushes, pops and answers grow.
use Rattle.std.specs.Prelude.{◌≡◌, ℕ, ◌-◌, ◌++◌, Option, List, map}
use Rattle.lfm_model.specs.Abstract.{AbstractMutex, AbstractPlace, AbstractStep, free, owner, passed, carried}
use Rattle.lfm_model.specs.Abstract as Abstract
use Rattle.lfm_model.specs.AbstractRuns.{Case}
use Rattle.lfm_words.specs.declared.pop_lists.Record.{Record}
pub use Rattle.lfm_laws.specs.laws.Cases.{GoesBy}
use Rattle.lfm_protocol.specs.Core.{Core}
use Rattle.lfm_laws.specs.laws.Events.{case_of_step, pushed_by, popped_by, answered_by}
use Rattle.lfm_laws.specs.steady.Ghost.{Responsibility, nobody, owned, granted, posted, entering, accepting, leaving, serving, Ghost}
use Rattle.lfm_laws.specs.steady.Numbered.{records}
use Rattle.lfm_laws.specs.steady.Steady.{Fits}
use Rattle.lfm_protocol.specs.Step.{made}
use Rattle.lfm_laws.specs.steady.Views.{is_asking}

-- the abstract mutex of a ghost

abbrev pub abstract_place : Responsibility → AbstractPlace
abstract_place nobody = free
abstract_place (owned s again) = owner s
abstract_place (granted s stamp) = passed s
abstract_place posted = Abstract.posted
abstract_place (entering s into stamp) = carried s (Abstract.entering into)
abstract_place (accepting s) = carried s (Abstract.entering s)
abstract_place (leaving s) = carried s Abstract.leaving
abstract_place (serving s) = carried s Abstract.serving

-- the queue's records, oldest first
abbrev pub queue_of_ghost : Ghost → List Record
queue_of_ghost g = records g.pushed_at g.popped (g.pushed - g.popped)

abbrev pub abstract : Ghost → AbstractMutex
abstract g =
    record {
      place = abstract_place g.place;
      asking = λ x. is_asking (g.standing x);
      waiting = map (λ r. r.seat) (queue_of_ghost g);
    }

-- the lists of pushes, pops and answers grow by these records
pub record GoesOn (g h : Ghost) (pushes pops answers : List Record) : Type 0 where
  pub pushed : records h.pushed_at 0 h.pushed ≡ records g.pushed_at 0 g.pushed ++ pushes
  pub popped : records h.pushed_at 0 h.popped ≡ records g.pushed_at 0 g.popped ++ pops
  pub answered : records h.pushed_at 0 h.answered ≡ records g.pushed_at 0 g.answered ++ answers

pub record EventOutcome (g : Ghost) (d : Core) (case : Option Case) (pushes pops answers : List Record) : Type 0 where
  pub to : Ghost
  pub fits : Fits d to
  pub goes : GoesBy case (abstract g) (abstract to)
  pub history : GoesOn g to pushes pops answers

-- the step that seat s makes next keeps a state steady
abbrev pub Kept : Core → Ghost → ℕ → Type 0
Kept c g s = EventOutcome g (made c s).core (case_of_step c s) (pushed_by c s) (popped_by c s) (answered_by s (made c s).turn)
