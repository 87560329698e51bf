-- Mutual exclusion, from the one reading of a lawful state: every claim is its place, and there is a claim if the count is
-- above 0.
use Rattle.std.proofs.Common.{◌≢◌, refl, sym, ap, ◌∙◌, arith}
use Rattle.lfm_model.specs.Abstract.{free, owner}
use Rattle.lfm_laws.specs.laws.Lawful.{owning_seat}
use Rattle.lfm_laws.specs.laws.Laws.{OneSeatOwns, OneHasTheResponsibility}
use Rattle.lfm_laws.specs.laws.Reading.{by_owner}
use Rattle.lfm_laws.proofs.lawful.states.CountLaws.{count_is_zero_if_free}
use Rattle.lfm_laws.proofs.lawful.states.StateLaws.{states_are_lawful}

pub one_seat_owns : OneSeatOwns
one_seat_owns c s t is mine others =
    let place = (states_are_lawful c is).lawful.reads.place in
    ap owning_seat (place.only (owner s) (by_owner s mine refl) ∙ sym (place.only (owner t) (by_owner t others refl)))

pub one_has_the_responsibility : OneHasTheResponsibility
one_has_the_responsibility c is some =
    let lawful = states_are_lawful c is in
    let place = lawful.lawful.reads.place in
    let taken : lawful.reading.place ≢ free =
    λ none. let zero = (count_is_zero_if_free c lawful.reading is lawful.lawful.reads).1 none in absurd (omega (arith, zero, some))
    in
    (lawful.reading.place, place.some taken, place.only)
