use Rattle.std.proofs.Common.{rules, ℕ, ◌++◌, ◌∷◌, [], ◌∙◌, ap, sym}
use Rattle.std.specs.Prelude.{Ok}
use Rattle.lfm_pool.specs.declared.any_depth.Release.{Release}
use Rattle.lfm_pool.specs.declared.unlock.Released.{Released}
use Rattle.lfm_pool.specs.declared.wake_up.off_trail.OffTrail.{OffTrail}
use Rattle.lfm_pool.specs.Calls.{Unlocks}
use Rattle.lfm_pool.proofs.calls.unlock.Goals as goal

pub returns-in-Ok-Last-Granted-clause-unlocks : goal.returns-in-Ok-Last-Granted-clause-unlocks
returns-in-Ok-Last-Granted-clause-unlocks c =
    let w = c.in-Ok-Last-Granted in let u = c.unlock_without_waking.new.seat in
    let did : Unlocks (Ok (Release.Last (Released.Granted w.wake_up))) c.args.seat.now u c.args.pool.now c.args.mutex = search rules in
    let woken = c.wake_and_note.ensures ∙ ap (λ (n : ℕ). record u.off_trail { woken = u.off_trail.woken ++ n ∷ [] }) (sym c.seat-next.ensures) in
    (w.wake_up, u, sym c.seat-next.ensures, did, ap (λ (o : OffTrail). record u { off_trail = o }) woken)
