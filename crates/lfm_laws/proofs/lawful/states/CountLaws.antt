-- The laws of the count and the place: the count is 0 exactly if the place is free, and the place that a state shows is that of
-- its reading.
use Rattle.std.proofs.Common.{◌≡◌, sym, ap, ◌∙◌}
use Rattle.lfm_model.specs.Abstract.{AbstractMutex}
use Rattle.lfm_protocol.specs.Core.{Core}
use Rattle.lfm_laws.specs.laws.Laws.{printed, PlacesAreRead, CountIsZeroIfFree}
use Rattle.lfm_laws.specs.steady.EventOutcome.{abstract, abstract_place}
use Rattle.lfm_laws.specs.laws.Reading.{Reads}
use Rattle.lfm_laws.specs.steady.Steady.{Steady}
use Rattle.lfm_laws.proofs.lawful.read.CountRead.{zero_count_is_free, free_counts_zero}
use Rattle.lfm_laws.proofs.lawful.read.Readings.{reads_ghost, reads_once}
use Rattle.lfm_laws.proofs.lawful.read.PlacesRead.{place_told}

-- a reading of a steady state has the place of its ghost
place_of_reading : (c : Core) (a : AbstractMutex) (steady : Steady c) → Reads c a → a.place ≡ abstract_place steady.ghost_state.place
place_of_reading c a steady reads = (reads_once c (abstract steady.ghost_state) a (reads_ghost c steady.ghost_state steady.fits) reads).place

pub count_is_zero_if_free : CountIsZeroIfFree
count_is_zero_if_free c a is reads =
    let steady = is in
    let same = place_of_reading c a steady reads in
    (λ none. same ∙ zero_count_is_free c steady.ghost_state steady.fits none, λ here. free_counts_zero c steady.ghost_state steady.fits (sym same ∙ here))

pub places_are_read : PlacesAreRead
places_are_read c a is reads =
    let steady = is in
    place_told c steady.ghost_state steady.fits ∙ ap printed (sym (place_of_reading c a steady reads))
