-- The wake word of a seat that rests.
use Rattle.std.proofs.Common.{◌≡◌, ℕ, true, false, Option, Some, None, refl}
use Rattle.lfm_protocol.specs.declared.points.Point.TheVariants.{Rest}
use Rattle.lfm_words.specs.declared.wakes.Wake.{Wake}
use Rattle.lfm_words.specs.declared.wakes.Wake.TheVariants.{Quiet}
use Rattle.lfm_protocol.specs.Core.{Core}
use Rattle.lfm_protocol.specs.Seats.{seat, wake}
use Rattle.lfm_laws.specs.steady.Ghost.{Responsibility, Standing, apart, Ghost}
use Rattle.lfm_laws.specs.steady.Steady.{Fits}
use Rattle.lfm_laws.specs.steady.Views.{grant_at, is_some, wake_by}
use Rattle.lfm_laws.proofs.steady.queue.Pushers.{fits_at}

quiet_by : (grant : Option ℕ) (place : Responsibility) (standing : Standing) (s : ℕ) (w : Wake)
    → (is_some grant ≡ true → (false ≡ true) × (standing ≡ apart)) → w ≡ wake_by grant place standing s Rest → w ≡ Quiet
quiet_by (Some stamp) place standing s w none e = let f = (none refl).0 in absurd (cc)
quiet_by None place standing s w none e = e

-- it is QUIET
pub resting_wakes_are_quiet : (c : Core) (g : Ghost) (s : ℕ) → (seat c.seats s).point ≡ Rest → Fits c g → wake c.wakes s ≡ Quiet
resting_wakes_are_quiet c g s at fits =
    let here = fits_at c g s (seat c.seats s) (wake c.wakes s) Rest at (fits.each s) in
    quiet_by (grant_at g.place s) g.place (g.standing s) s (wake c.wakes s) here.granted here.woken
