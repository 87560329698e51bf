-- The place of the responsibility, as the words and the points of a state show it.
use Rattle.std.specs.Prelude.{ℕ, Bool, true, false, ◌+◌, Option, Some, None, nat_eq, position, if◌then◌else◌}
use Rattle.std.specs.List.{zip}
use Rattle.lfm_protocol.specs.declared.points.Point.{Point}
use Rattle.lfm_protocol.specs.declared.points.Point.TheVariants.{TryCountAdd, SendWakeStore, ReleaseCountSubtract, ReleaseHandoffStore, TakeClearHead, TakeLinkLoad, GrantWakeStore, EnterOwnerStore, ReceiveWakeStore}
use Rattle.lfm_model.specs.declared.answers.Place.{Place}
use Rattle.lfm_model.specs.declared.answers.Place.TheVariants.{Free, Owner, Passed, Posted, Carried}
use Rattle.lfm_words.specs.declared.wakes.Wake.{Wake}
use Rattle.lfm_words.specs.declared.wakes.Wake.TheVariants.{Grant}
use Rattle.lfm_protocol.specs.Core.{Core}

-- a call at this point carries the responsibility
abbrev pub carries : Point → Bool
carries TryCountAdd = true
carries (SendWakeStore t) = true
carries (ReleaseCountSubtract releaser) = true
carries (ReleaseHandoffStore releaser) = true
carries (TakeClearHead carrier) = true
carries (TakeLinkLoad carrier next) = true
carries (GrantWakeStore carrier oldest) = true
carries (EnterOwnerStore entrant how) = true
carries (ReceiveWakeStore stamp) = true
carries _ = false

-- a receive at this point has loaded the grant from its wake word
abbrev pub has_loaded : Point → Bool
has_loaded (ReceiveWakeStore stamp) = true
has_loaded _ = false

-- a wake word holds a grant that a seat at this point has not yet loaded
abbrev pub is_passed : Wake → Point → Bool
is_passed (Grant stamp) p = if has_loaded p then false else true
is_passed _ p = false

abbrev pub carried_place : Option ℕ → Place
carried_place None = Free
carried_place (Some i) = Carried (i + 1)

abbrev pub passed_place : Core → Option ℕ → Place
passed_place c (Some i) = Passed (i + 1)
passed_place c None = carried_place (position (λ x. carries x.point) c.seats)

-- the tests in this order: the owner word, the handoff word, grants that are not loaded, calls that carry the responsibility
abbrev pub place_of : Core → Place
place_of c =
    if nat_eq c.owner 0
    then (if nat_eq c.handoff.seat 0
    then passed_place c (position (λ w. is_passed w.0 w.1.point) (zip c.wakes c.seats))
    else Posted)
    else Owner c.owner
