-- Steps that leave the abstract mutex unchanged: their outcome, and what the wake words and the owner word then imply.
use Rattle.std.proofs.Common.{◌≡◌, ◌≢◌, ℕ, ◌<◌, Option, Some, None, [], refl, arith}
use Rattle.std.proofs.lemmas.Bool.{eq-eqb}
use Rattle.lfm_protocol.specs.declared.points.Point.{Point}
use Rattle.lfm_protocol.specs.Core.{Core, put}
use Rattle.lfm_laws.specs.steady.Ghost.{Responsibility, nobody, owned, granted, posted, entering, accepting, leaving, serving, Standing, Ghost}
use Rattle.lfm_laws.specs.steady.EventOutcome.{EventOutcome}
use Rattle.lfm_laws.specs.steady.Steady.{Fits, owner_of, SeatFits}
use Rattle.lfm_laws.specs.steady.Views.{held_by, wake_by, wake_at}
use Rattle.lfm_laws.proofs.steady.frames.Abstracts.{stays_same}
use Rattle.lfm_laws.proofs.steady.frames.Histories.{history_stays}
use Rattle.lfm_protocol.specs.Seats.{wake, IsSeat}
use Rattle.lfm_protocol.specs.declared.seats.SeatState.{SeatState}
use Rattle.lfm_laws.proofs.steady.frames.Frames.{Errands, view_moves}

-- a wake word stays the same if it does so for a seat without a grant
pub wake_by_same : (grant : Option ℕ) (place : Responsibility) (standing later : Standing) (s : ℕ) (p q : Point) → wake_at place standing s p ≡ wake_at place later s q
    → wake_by grant place standing s p ≡ wake_by grant place later s q
wake_by_same (Some stamp) place standing later s p q same = refl
wake_by_same None place standing later s p q same = same

-- a seat whose number is in the owner word has the responsibility
pub owner_of-held : (p : Responsibility) (s : ℕ) → 0 < s → owner_of p ≡ s → held_by p s ≢ nobody
owner_of-held nobody s above e = absurd (omega (arith, above, e))
owner_of-held (owned t again) s above e = rw (e, eq-eqb s s refl) (λ f. cc)
owner_of-held (granted t stamp) s above e = absurd (omega (arith, above, e))
owner_of-held posted s above e = absurd (omega (arith, above, e))
owner_of-held (entering t into stamp) s above e = absurd (omega (arith, above, e))
owner_of-held (accepting t) s above e = absurd (omega (arith, above, e))
owner_of-held (leaving t) s above e = absurd (omega (arith, above, e))
owner_of-held (serving t) s above e = absurd (omega (arith, above, e))

-- another `walk` changes neither the abstract mutex nor the records of a run
pub walk_kept : (g : Ghost) (d : Core) (walk : ℕ) → Fits d (record g { walk = walk }) → EventOutcome g d None [] [] []
walk_kept g d walk fits =
    let h : Ghost = record g { walk = walk } in
    record {
      to = h;
      fits = fits;
      goes = stays_same g h refl (λ x. refl) refl;
      history = history_stays g h refl refl refl refl;
    }

-- only the state of a seat changes
pub view_kept : (g : Ghost) (d : Core) → Fits d g → EventOutcome g d None [] [] []
view_kept g d fits = walk_kept g d g.walk fits

-- seat s moves on and no word changes
pub moves_quietly : (c : Core) (g : Ghost) (s : ℕ) (y : SeatState) → IsSeat c.seats s → Fits c g → Errands c s y
    → SeatFits c g s y (wake c.wakes s) → EventOutcome g (put c s y) None [] [] []
moves_quietly c g s y is fits errands own = view_kept g (put c s y) (view_moves c g s y is fits errands own)
