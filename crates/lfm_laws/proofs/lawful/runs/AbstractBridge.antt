-- The readings of a run are a run of the abstract mutex, and each event changes the reading by its case; for a step that is its
-- `case_of_step`.
use Rattle.std.proofs.Common.{Option, Some, None, List, [], ◌∷◌}
use Rattle.lfm_model.specs.Abstract.{AbstractMutex}
use Rattle.lfm_model.specs.AbstractRuns.{Case, StepsOrStays, stepped, stayed, IsRunFrom}
use Rattle.lfm_laws.specs.laws.Cases.{GoesBy, case_of_event, ReadsRun}
use Rattle.lfm_protocol.specs.Core.{Core}
use Rattle.lfm_laws.specs.steady.Ghost.{Ghost}
use Rattle.lfm_laws.specs.laws.Laws.{RunsAreAbstractRuns, EventsAreTheirCases}
use Rattle.lfm_laws.specs.steady.EventOutcome.{abstract}
use Rattle.lfm_laws.specs.laws.Schedules.{Event, happens}
use Rattle.lfm_laws.specs.steady.Steady.{Fits}
use Rattle.lfm_protocol.specs.Step.{start}
use Rattle.lfm_laws.proofs.lawful.runs.Reached.{event_goes}
use Rattle.lfm_laws.proofs.lawful.read.Readings.{reads_ghost, reads_once}
use Rattle.lfm_laws.proofs.lawful.runs.SameSteps.{same_goes}
use Rattle.lfm_laws.proofs.steady.Start.{at_start, start_fits}

-- One event

pub events_are_their_cases : EventsAreTheirCases
events_are_their_cases c e a b is first later =
    let steady = is in
    let g : Ghost = steady.ghost_state in
    let goes = event_goes c g e steady.fits in
    same_goes (abstract g) (abstract goes.to) a b (reads_once c (abstract g) a (reads_ghost c g steady.fits) first)
    (reads_once (happens c e).core (abstract goes.to) b (reads_ghost (happens c e).core goes.to goes.fits) later) (case_of_event c e) goes.goes

-- A run

follows : (case : Option Case) (a b : AbstractMutex) → GoesBy case a b → StepsOrStays a b
follows None a b same = stayed same
follows (Some case) a b goes = stepped goes.0

record RunReads (c : Core) (g : Ghost) (events : List Event) : Type 0 where
  later : List AbstractMutex
  reads : ReadsRun c events later
  run : IsRunFrom (abstract g) later

run_reads : (c : Core) (g : Ghost) (events : List Event) → Fits c g → RunReads c g events
run_reads c g [] fits = record { later = []; reads = tt; run = tt }
run_reads c g (e ∷ events) fits =
    let one = event_goes c g e fits in
    let rest = run_reads (happens c e).core one.to events one.fits in
    record {
      later = abstract one.to ∷ rest.later;
      reads = (reads_ghost (happens c e).core one.to one.fits, rest.reads);
      run = (follows (case_of_event c e) (abstract g) (abstract one.to) one.goes, rest.run);
    }

pub runs_are_abstract_runs : RunsAreAbstractRuns
runs_are_abstract_runs limits events few =
    let fits : Fits (start limits) at_start = start_fits limits few in
    let rest = run_reads (start limits) at_start events fits in
    (reads_ghost (start limits) at_start fits, (rest.later, rest.reads, rest.run))
