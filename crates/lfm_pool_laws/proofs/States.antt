-- Each mutex of a pool is a reached state of the core: so the laws of such states hold of it.
use Rattle.std.proofs.Common.{◌≡◌, ℕ, zero, suc, ◌+◌, ◌*◌, ◌<◌, ◌≤◌, List, refl, sym, ap, ◌∙◌, subst, arith}
use Rattle.std.specs.Prelude.{true}
use Rattle.std.proofs.lemmas.Bool.{false≢true}
use Rattle.atomic_table.specs.Table.{State}
use Rattle.lfm_words.specs.declared.handoffs.Handoff.{Handoff}
use Rattle.lfm_words.specs.Words.{handoff_word, is_posted_word}
use Rattle.lfm_protocol.specs.declared.answers.Call.TheVariants.{Unlock}
use Rattle.lfm_protocol.specs.declared.limits.Limits.{Limits}
use Rattle.lfm_protocol.specs.declared.seats.SeatState.{SeatState}
use Rattle.lfm_protocol.specs.Seats.{unposted}
use Rattle.lfm_protocol.specs.Step.{begin}
use Rattle.lfm_laws.specs.laws.Laws.{IsReached}
use Rattle.lfm_laws.specs.steady.Steady.{NumbersFit, Steady}
use Rattle.lfm_laws.specs.laws.Progress.{changes_beside}
use Rattle.lfm_laws.specs.laws.Schedules.{steps_of_call}
use Rattle.lfm_laws.proofs.lawful.bounds.Beside.{calls_end_beside_others}
use Rattle.lfm_laws.proofs.lawful.bounds.ConstantBounds.{receives_are_bounded, tries_are_bounded}
use Rattle.lfm_laws.proofs.lawful.bounds.ReleaseBounds.{unlocks_are_bounded}
use Rattle.lfm_laws.proofs.lawful.states.Owning.{one_has_the_responsibility, one_seat_owns}
use Rattle.lfm_laws.proofs.lawful.states.StateLaws.{states_are_lawful}
use Rattle.lfm_table.specs.declared.seat_view.Action.{Action}
use Rattle.lfm_table.specs.Actions.{events_of}
use Rattle.lfm_mutex.specs.TableRuns.{state_after}
use Rattle.lfm_pool.specs.declared.view.PoolView.{PoolView}
use Rattle.lfm_pool.specs.Tables.{part}
use Rattle.lfm_pool_laws.specs.Mutexes.{HasRunOf}
use Rattle.lfm_pool_laws.specs.StateLaws.{CallsInMutexesAreBounded, MutexesAreSteady, MutexesHaveOneOwner, OneHasTheResponsibilityForEach, PostsOfMutexesAreWatched}
use Rattle.lfm_pool.proofs.Numbers.{numbers_at}
use Rattle.lfm_pool_laws.proofs.Tables.{few, kept, led, mutex_is, seats_are, steady}

module _ (s : State ℕ PoolView) (m : ℕ) (l : Limits) (actions : List Action) (r : HasRunOf s m l actions) where
  is_reached : IsReached (state_after l actions)
  is_reached = record { limits = l; events = events_of actions; few = few s m l actions r; here = refl }

  -- no stamp and no number of a post outgrows its word
  numbers : NumbersFit (state_after l actions)
  numbers =
      let k = kept s m l actions r in
      subst NumbersFit (led s m l actions r) (numbers_at s r.rule m r.inside r.table k r.has.counted r.has.views r.has.push)

pub mutexes_are_steady : MutexesAreSteady
mutexes_are_steady s m l actions r =
    let is = steady s m l actions r in
    (is_reached s m l actions r, numbers s m l actions r, r.rule.few, is, states_are_lawful (state_after l actions) is)

pub mutexes_have_one_owner : MutexesHaveOneOwner
mutexes_have_one_owner s h m i j v w less at at' deep deep' =
    let k = h.held.kept m less in
    let is : Steady k.core = record { ghost_state = k.ghost_state; fits = k.fits } in
    let first = ap (λ (x : SeatState). x.depth) (sym (k.each i (part v m) (h.held.parts m i v less at)).state) in
    let second = ap (λ (x : SeatState). x.depth) (sym (k.each j (part w m) (h.held.parts m j w less at')).state) in
    let same = one_seat_owns k.core (i + 1) (j + 1) is (subst (λ (n : ℕ). 0 < n) first deep) (subst (λ (n : ℕ). 0 < n) second deep') in
    omega (arith, same)

pub one_has_the_responsibility_for_each : OneHasTheResponsibilityForEach
one_has_the_responsibility_for_each s m l actions r some =
    let c = state_after l actions in
    one_has_the_responsibility c (steady s m l actions r) (subst (λ (n : ℕ). 0 < n) (mutex_is s m l actions r).count some)

-- a handoff that is posted in the word names a seat
posted_seat : (h : Handoff) (n : ℕ) → h.seat ≡ n → (h.seat ≡ 0 → h ≡ unposted) → is_posted_word (handoff_word h) ≡ true → 0 < n
posted_seat h zero none empty posted =
    absurd (false≢true (sym (ap (λ (x : Handoff). is_posted_word (handoff_word x)) (empty none)) ∙ posted))
posted_seat h (suc n) some empty posted = omega arith

pub posts_of_mutexes_are_watched : PostsOfMutexesAreWatched
posts_of_mutexes_are_watched s m l actions r posted =
    let c = state_after l actions in
    let lawful = (states_are_lawful c (steady s m l actions r)).lawful in
    lawful.watched (posted_seat c.handoff c.handoff.seat refl lawful.unposted_word (sym (mutex_is s m l actions r).posted ∙ posted))

pub calls_in_mutexes_are_bounded : CallsInMutexesAreBounded
calls_in_mutexes_are_bounded s m l actions r t events =
    let c = state_after l actions in
    let is = steady s m l actions r in
    let many = seats_are s m l actions r in (
      (λ outside. (
        subst (λ (n : ℕ). steps_of_call (begin c t Unlock).core t events ≤ n + 7) many (unlocks_are_bounded c t events is outside),
        tries_are_bounded c t events is outside,
        receives_are_bounded c t events is outside,
      )),
      subst (λ (n : ℕ). steps_of_call c t events ≤ n + 9 + 2 * changes_beside c t events) many (calls_end_beside_others c t events is),
    )
