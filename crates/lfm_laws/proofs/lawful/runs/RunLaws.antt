-- The outcome of all events of a run: a ghost that fits the last state, and the records of the whole run.
use Rattle.std.proofs.Common.{◌≡◌, List, [], ◌∷◌, ◌++◌, ap, ◌∙◌, append_assoc, refl}
use Rattle.lfm_words.specs.declared.pop_lists.Record.{Record}
use Rattle.lfm_protocol.specs.Core.{Core}
use Rattle.lfm_laws.specs.steady.Ghost.{Ghost}
use Rattle.lfm_laws.specs.steady.EventOutcome.{GoesOn}
use Rattle.lfm_laws.specs.laws.Schedules.{Event, happens, run_of, push_record, popped_record, answer_record}
use Rattle.lfm_laws.specs.steady.Steady.{Fits}
use Rattle.lfm_laws.proofs.steady.frames.Histories.{history_stays}
pub use Rattle.lfm_laws.proofs.lawful.runs.Reached.{Goes, event_goes}

pub record RunGoes (c : Core) (g : Ghost) (events : List Event) : Type 0 where
  pub to : Ghost
  pub fits : Fits (run_of c events) to
  pub history : GoesOn g to (push_record c events) (popped_record c events) (answer_record c events)

-- what grows by one list and then by another grows by both
one_by_one : (first mid last early late : List Record) → mid ≡ first ++ early → last ≡ mid ++ late → last ≡ first ++ (early ++ late)
one_by_one first mid last early late e f = f ∙ ap (λ l. l ++ late) e ∙ append_assoc first early late

-- the records of two consecutive parts of a run are together those of both
pub history_after : (g h k : Ghost) (pushes pops answers pushes' pops' answers' : List Record) → GoesOn g h pushes pops answers → GoesOn h k pushes' pops' answers'
    → GoesOn g k (pushes ++ pushes') (pops ++ pops') (answers ++ answers')
history_after g h k pushes pops answers pushes' pops' answers' first second =
    record {
      pushed = one_by_one _ _ _ pushes pushes' first.pushed second.pushed;
      popped = one_by_one _ _ _ pops pops' first.popped second.popped;
      answered = one_by_one _ _ _ answers answers' first.answered second.answered;
    }

pub run_goes : (c : Core) (g : Ghost) (events : List Event) → Fits c g → RunGoes c g events
run_goes c g [] fits = record { to = g; fits = fits; history = history_stays g g refl refl refl refl }
run_goes c g (e ∷ later) fits =
    let one = event_goes c g e fits in
    let rest = run_goes (happens c e).core one.to later one.fits in
    record { to = rest.to; fits = rest.fits; history = history_after g one.to rest.to _ _ _ _ _ _ one.history rest.history }
