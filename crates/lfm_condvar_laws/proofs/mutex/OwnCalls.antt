-- Own calls of seats outside of calls on condvars behave as in a schedule of the user mutex alone.
use Rattle.std.proofs.Common.{◌≡◌, suc, true, List, [], ◌∷◌, refl, ap, ◌∙◌, arith}
use Rattle.std.proofs.lemmas.Bool.{false≢true}
use Rattle.std.specs.Prelude.{All, map}
use Rattle.lfm_laws.specs.laws.Schedules as Schedules
use Rattle.lfm_condvar_laws.specs.Condvars.{Stage, outside, CondvarCore, put_mutex}
use Rattle.lfm_condvar_laws.specs.Events.{as_event, is_outside, is_own_event, happens, goes_on, run_of}
use Rattle.lfm_condvar_laws.specs.Laws.{reached_by, OwnCallsAreFree}

outside_of : (d : Stage) → is_outside d ≡ true → d ≡ outside
outside_of outside is = refl
outside_of _ is = absurd (false≢true is)

own_happens : (k : CondvarCore) (e : Schedules.Event) → is_own_event k e ≡ true
    → happens k (as_event e) ≡ put_mutex k (Schedules.happens k.mutex e).core
own_happens k (Schedules.begins s call) own = rw own refl
own_happens k (Schedules.makes s) own = ap (goes_on k s) (outside_of (k.stage s) own)

own_run : (k : CondvarCore) (events : List Schedules.Event) → All (λ e. is_own_event k e ≡ true) events
    → run_of k (map as_event events) ≡ put_mutex k (Schedules.run_of k.mutex events)
own_run k [] own = refl
own_run k (e ∷ later) own =
    let first = own_happens k e (own 0 e (omega arith)) in
    ap (λ l. run_of l (map as_event later)) first
    ∙ own_run (put_mutex k (Schedules.happens k.mutex e).core) later (λ i d within. own (suc i) d (omega (arith, within)))

pub own_calls_are_free : OwnCallsAreFree
own_calls_are_free r events own = own_run (reached_by r) events own
