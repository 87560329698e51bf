-- What a seat does in one mutex of a pool, it does in no other.
use Rattle.std.proofs.Common.{◌≡◌, ◌≢◌, ℕ, ◌+◌, ◌<◌, List, refl, sym, ap, ◌∙◌, subst, inl, inr, arith, Some, None}
use Rattle.std.specs.Prelude.{true, false}
use Rattle.std.proofs.lemmas.Bool.{cases_eq, false≢true}
use mathlib.Core.Option.{some}
use lib.ListN.{get_elem?}
use Rattle.atomic_table.specs.Table.{State}
use Rattle.lfm_model.specs.Abstract.{AbstractPlace, Carrying}
use Rattle.lfm_words.specs.declared.wakes.Wake.TheVariants.{Grant, Quiet}
use Rattle.lfm_protocol.specs.declared.limits.Limits.{Limits}
use Rattle.lfm_protocol.specs.declared.points.Point.{Point}
use Rattle.lfm_protocol.specs.declared.points.Point.TheVariants.{Rest}
use Rattle.lfm_protocol.specs.declared.seats.SeatState.{SeatState}
use Rattle.lfm_protocol.specs.Seats.{seat, wake}
use Rattle.lfm_laws.specs.laws.Reading.{Claims, by_call, by_grant, by_handoff, by_owner, carrying_at}
use Rattle.lfm_laws.specs.laws.Watched.{IsQueued}
use Rattle.lfm_laws.specs.steady.Ghost.{Standing, queued}
use Rattle.lfm_laws.specs.steady.Views.{is_queued}
use Rattle.lfm_laws.proofs.lawful.read.QueueRead.{waits_read}
use Rattle.lfm_table.specs.declared.seat_view.Action.{Action}
use Rattle.lfm_mutex.specs.TableRuns.{state_after}
use Rattle.lfm_pool.specs.declared.view.PoolView.{PoolView}
use Rattle.lfm_pool.specs.Layout.{wake_at}
use Rattle.lfm_pool.specs.SeatWords.{Sleeps}
use Rattle.lfm_pool.specs.Tables.{has_link_at, part, rests_at}
use Rattle.lfm_pool.proofs.Resting.{resting_wakes_are_quiet}
use Rattle.lfm_pool.proofs.Targets.{queued_linked}
use Rattle.lfm_pool_laws.specs.Mutexes.{HasRunOf}
use Rattle.lfm_pool_laws.specs.SeatLaws.{RestingSeatsAreQuiet, SeatsActInOneMutex, named_seat}
use Rattle.lfm_pool_laws.proofs.Tables.{mutex_is, not_handoff, steady}

busy_at : (q : Point) → q ≢ Rest → rests_at q ≡ false
busy_at Rest other = absurd (other refl)
busy_at _ other = refl

resting : (q : Point) → rests_at q ≡ true → q ≡ Rest
resting Rest e = refl
resting _ e = absurd (false≢true e)

asleep : (x : SeatState) → Sleeps x → rests_at x.point ≡ false
asleep x sleeps = ap rests_at sleeps.1

stamp_of : (z : Standing) → is_queued z ≡ true → (stamp : ℕ) × (z ≡ queued stamp)
stamp_of (queued stamp) e = (stamp, refl)
stamp_of _ e = absurd (false≢true e)

-- a seat that rests in a mutex is not in its queue
not_queued : (s : State ℕ PoolView) (m : ℕ) (l : Limits) (actions : List Action) → HasRunOf s m l actions → (j : ℕ) (v : PoolView) → get_elem? s.views j ≡ some v
    → (part v m).state.point ≡ Rest → IsQueued (state_after l actions) (j + 1) → ⊥
not_queued s m l actions r j v at rest waits =
    let c = state_after l actions in
    let is = steady s m l actions r in
    let stands = stamp_of (is.ghost_state.standing (j + 1)) (waits_read c is.ghost_state is.fits (j + 1) waits) in
    let linked = queued_linked c is.ghost_state is.fits (j + 1) stands.0 stands.1 in
    let here = ap (λ (x : SeatState). has_link_at x.point) ((mutex_is s m l actions r).seats_are j v at) in
    false≢true (sym (ap has_link_at rest) ∙ sym here ∙ linked)

pub seats_act_in_one_mutex : SeatsActInOneMutex
seats_act_in_one_mutex s h m n j v less less' at = (
  (λ differ busy. resting (part v n).state.point (h.held.elsewhere m n j v less less' differ at (busy_at (part v m).state.point busy))),
  (λ differ l actions r waits.
      resting (part v n).state.point (h.held.elsewhere m n j v less less' differ at (busy_at (part v m).state.point (λ rest. not_queued s m l actions r j v at rest waits)))),
  (λ here there. elim (cases_eq m n) [
    | inl same ↦ same
    | inr differ ↦
        absurd (false≢true (sym (asleep (part v n).state there) ∙ h.held.elsewhere m n j v less less' differ at (asleep (part v m).state here)))
  ]),
)

-- no claim names a seat that rests in a mutex and does not hold it
module _ (s : State ℕ PoolView) (m : ℕ) (l : Limits) (actions : List Action) (r : HasRunOf s m l actions) (j : ℕ) (v : PoolView) (at : get_elem? s.views j ≡ some v) (rest : (part v m).state.point ≡ Rest) (flat : (part v m).state.depth ≡ 0) where
  here : seat (state_after l actions).seats (j + 1) ≡ (part v m).state
  here = (mutex_is s m l actions r).seats_are j v at

  at_rest : (seat (state_after l actions).seats (j + 1)).point ≡ Rest
  at_rest = ap (λ (x : SeatState). x.point) here ∙ rest

  no_hold : 0 < (seat (state_after l actions).seats (j + 1)).depth → ⊥
  no_hold deep = let flat_there = ap (λ (x : SeatState). x.depth) here ∙ flat in omega (arith, deep, flat_there)

  no_grant : (stamp : ℕ) → wake (state_after l actions).wakes (j + 1) ≡ Grant stamp → ⊥
  no_grant stamp word =
      let is = steady s m l actions r in
      let quiet = resting_wakes_are_quiet (state_after l actions) is.ghost_state (j + 1) at_rest is.fits in
      let same : Quiet ≡ Grant stamp = sym quiet ∙ word in
      absurd (cc)

  no_call : (how : Carrying) → carrying_at (j + 1) (seat (state_after l actions).seats (j + 1)).point ≡ Some how → ⊥
  no_call how carries =
      let same : None ≡ Some how = sym (ap (carrying_at (j + 1)) at_rest) ∙ carries in
      absurd (cc)

  unnamed : (q : AbstractPlace) → Claims (state_after l actions) q → named_seat q ≢ j + 1
  unnamed q (by_owner t deep e) named =
      let one : t ≡ j + 1 = sym (ap named_seat e) ∙ named in
      no_hold (subst (λ (n : ℕ). 0 < (seat (state_after l actions).seats n).depth) one deep)
  unnamed q (by_handoff names e) named = let none : 0 ≡ j + 1 = sym (ap named_seat e) ∙ named in absurd (omega (arith, none))
  unnamed q (by_grant t stamp word loaded e) named =
      let one : t ≡ j + 1 = sym (ap named_seat e) ∙ named in
      no_grant stamp (subst (λ (n : ℕ). wake (state_after l actions).wakes n ≡ Grant stamp) one word)
  unnamed q (by_call t how carries e) named =
      let one : t ≡ j + 1 = sym (ap named_seat e) ∙ named in
      no_call how (subst (λ (n : ℕ). carrying_at n (seat (state_after l actions).seats n).point ≡ Some how) one carries)

pub resting_seats_are_quiet : RestingSeatsAreQuiet
resting_seats_are_quiet s h j v at all = (
  h.same (wake_at h.held.mutexes j) (not_handoff h.held.mutexes j) ∙ h.held.quiet j v at (λ m less. ap rests_at (all m less)),
  (λ m l actions r.
      let less : m < h.held.mutexes = let w = h.held.wide j v at in let w' = r.rule.held.wide j v at in omega (arith, w, w', r.inside) in
      (not_queued s m l actions r j v at (all m less), λ flat. unnamed s m l actions r j v at (all m less) flat)),
)
