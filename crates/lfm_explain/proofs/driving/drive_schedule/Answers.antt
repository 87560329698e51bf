use Rattle.std.proofs.Common.{All, sym, subst}
use Rattle.lfm_mutex.specs.Belongs.{OfMutex}
use Rattle.lfm_mutex.proofs.Lists.{all_by_place}
use Rattle.lfm_explain.proofs.driving.drive_schedule.Goals as goal

pub drive_lines-requires : goal.drive_lines-requires
drive_lines-requires g c =
    let each = all_by_place (λ s. OfMutex s c.in-Ok.made.0) c.in-Ok.made.1.items (λ j s at. (c.in-Ok.ensures.seats.1 j s at).0) in
    record { belong = subst (λ xs. All (λ s. OfMutex s c.in-Ok.made.0) xs) (sym c.as_mut_slice.ensures.value) each }
