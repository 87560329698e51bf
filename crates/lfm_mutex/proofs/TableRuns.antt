-- Each atomic step extends the run of a table, and what the laws state about runs of the core holds of it.
use Rattle.std.proofs.Common.{◌≡◌, ◌⊎◌, ℕ, zero, suc, ◌+◌, ◌*◌, ◌<◌, ◌≤◌, List, [], ◌∷◌, ◌++◌, Option, true, length, replicate, reverse, slice_index, refl, sym, ap, ◌∙◌, subst, ⊎_elim, inl, inr, arith}
use mathlib.Core.Option.{some}
use lib.ListN.{get_elem?}
use Rattle.lfm_table.specs.Table.{State, stepped}
use Rattle.lfm_protocol.specs.declared.limits.Limits.{Limits}
use Rattle.lfm_protocol.specs.Core.{Core, put}
use Rattle.lfm_protocol.specs.Limits.{are_in_limits, max_budget, max_seats}
use Rattle.lfm_protocol.specs.Queue.{chain, chain_of, queue_of, unwalked}
use Rattle.lfm_protocol.specs.Seats.{absent, seat}
use Rattle.lfm_protocol.specs.Step.{made, start}
use Rattle.lfm_words.specs.declared.links.Link.{Link}
use Rattle.lfm_words.specs.declared.pop_lists.Record.{Record}
use Rattle.lfm_laws.specs.laws.Laws.{IsReached}
use Rattle.lfm_laws.specs.laws.Progress.{ended_in_run, steps_of_run}
use Rattle.lfm_laws.specs.table.Words.{index, written}
use Rattle.lfm_laws.proofs.lawful.runs.AbstractBridge.{runs_are_abstract_runs}
use Rattle.lfm_laws.proofs.lawful.runs.InSchedules.{queue_is_in_push_order_in_schedules, stamps_are_consecutive_in_schedules, queued_seats_are_overtaken_once_in_schedules, queued_seats_wait_for_few_releases_in_schedules, no_seat_overtakes_twice_in_schedules, some_call_ends_in_schedules}
use Rattle.lfm_laws.specs.laws.FairRounds.{HasFairRounds, rounds_to_release}
use Rattle.lfm_laws.specs.laws.FullRounds.{HasFullRounds, calls_of_owners}
use Rattle.lfm_laws.specs.laws.Rounds.{HasRounds, HasUnownedRounds}
use Rattle.lfm_laws.proofs.lawful.rounds.BeforePush.{counted_seats_are_pushed_in_rounds, counted_seats_are_pushed_within_budgets}
use Rattle.lfm_laws.proofs.lawful.rounds.FairRounds.{queued_seats_are_served_in_fair_rounds}
use Rattle.lfm_laws.proofs.lawful.rounds.FullRounds.{queued_seats_are_served_whatever_owners_begin}
use Rattle.lfm_laws.proofs.lawful.rounds.Runs.{queued_seats_are_served_in_rounds}
use Rattle.lfm_laws.proofs.lawful.runs.LimitsKept.{limits_stay}
use Rattle.lfm_laws.proofs.lawful.runs.PushOrder.{answers_are_the_records}
use Rattle.lfm_laws.proofs.steady.Start.{few_seats, small_budget}
use Rattle.lfm_laws.proofs.lawful.runs.Reached.{steady_reached}
use Rattle.lfm_table.specs.declared.rule.Moving.{Moving}
use Rattle.lfm_table.specs.declared.seat_view.Action.{Action}
use Rattle.lfm_table.specs.declared.seat_view.Action.TheVariants.{LoadsOwner}
use Rattle.lfm_table.specs.declared.seat_view.View.{View}
use Rattle.lfm_table.specs.Rule.{HeldWithin}
use Rattle.lfm_table.specs.Actions.{HasRun, told, events_of, part_of, begins_and_step}
use Rattle.lfm_table.proofs.tables.Actions.{known_once, led_join, no_part, part_join}
use Rattle.lfm_table.proofs.tables.RuleKept.{led_on}
use Rattle.lfm_mutex.proofs.LawsHeld.{core_of}
use Rattle.lfm_mutex.proofs.RunTrails.{answers_told, entries_of_part, pushes_told, rest_is_nil, steps_of_parts}
use Rattle.lfm_mutex.proofs.ends.OwnerLoads.{owner_keeps, owner_tells}
use Rattle.lfm_table.proofs.tables.SplitsAndJoins.{joins, joins_keep, splits, splits_keep}
use Rattle.lfm_table.proofs.tables.Starts.{starts, starts_at}
use Rattle.lfm_mutex.specs.Laws.{IsCore}
use Rattle.lfm_mutex.specs.TableRuns.{HoldsAfter, OtherStepsKeepTheCore, SeatsKnowUpToTheirLastStep, TablesEndCalls, TablesGoOnAsTheCore, TablesGoThroughReachedStates, TablesRunAsTheAbstractMutex, TablesHaveARun, TablesOpenAtTheStart, TablesOvertakeOnce, TablesPushInRounds, TablesServeInPushOrder, TablesServeInRounds, TrailsTellThePushes, TrailsTellTheAnswers, EndsCalls, OvertakesOnce, PushesInRounds, RunsAsTheAbstractMutex, ServesInPushOrder, ServesInRounds, answers_noted, late_part, pushes_noted, popped_since, pushed_since, state_after}

-- at each moment of a run within the limits, the state is one that a schedule reaches
reached_after : (l : Limits) (actions : List Action) → are_in_limits l.seats l.budget ≡ true → IsReached (state_after l actions)
reached_after l actions allowed = record { limits = l; events = events_of actions; few = few_seats l.seats l.budget allowed; here = refl }

budget_after : (l : Limits) (actions : List Action) → are_in_limits l.seats l.budget ≡ true → (state_after l actions).budget ≤ max_budget
budget_after l actions allowed =
    let same : (state_after l actions).budget ≡ l.budget = ap (λ (k : Limits). k.budget) (limits_stay l (events_of actions)) in
    let small = small_budget l.seats l.budget allowed in
    omega (arith, same, small)

none_before : (n : ℕ) → 0 + n ≡ n
none_before n = omega arith

-- no seat is queued at the start

none_unwalked : (n : ℕ) → unwalked (replicate n absent) ≡ 0
none_unwalked zero = refl
none_unwalked (suc n) = none_unwalked n

none_linked : (most : ℕ) (links : List Link) → chain_of most links 0 ≡ []
none_linked zero links = refl
none_linked (suc most) links = refl

start_queue : (l : Limits) → queue_of (start l) ≡ []
start_queue l =
    (λ i. reverse (chain (start l).links (none_unwalked l.seats i)) ++ reverse (chain (start l).links 0))
    ∙ (λ i. reverse (none_linked (length (start l).links) (start l).links i) ++ reverse (none_linked (length (start l).links) (start l).links i))

-- What the laws of schedules say of a run with this number of seats

module _ (l : Limits) (few : l.seats ≤ max_seats) where
  -- at each moment of such a run, the state is one that a schedule reaches
  reached_at : (actions : List Action) → IsReached (state_after l actions)
  reached_at actions = record { limits = l; events = events_of actions; few = few; here = refl }

  pub runs_as_the_abstract_mutex : (actions : List Action) → RunsAsTheAbstractMutex l actions
  runs_as_the_abstract_mutex actions = runs_are_abstract_runs l (events_of actions) few

  order : (early late : List Action) → queue_of (state_after l early) ++ pushed_since l early late ≡ popped_since l early late ++ queue_of (state_after l (early ++ late))
  order early late =
      queue_is_in_push_order_in_schedules (state_after l early) (events_of late) (reached_at early)
      ∙ ap (λ (c : Core). popped_since l early late ++ queue_of c) (sym (led_join (start l) early late))

  pub serves_in_push_order : (actions : List Action) → ServesInPushOrder l actions
  serves_in_push_order actions = (
    (λ early late is. order early late ∙ ap (λ (d : List Action). popped_since l early late ++ queue_of (state_after l d)) (sym is)),
    ap (λ (q : List Record). q ++ pushed_since l [] actions) (sym (start_queue l)) ∙ order [] actions,
    (λ k d low. stamps_are_consecutive_in_schedules (start l) (events_of actions) (reached_at []) k d low ∙ none_before (k + 1)),
    answers_are_the_records l (events_of actions) few,
  )

  pub overtakes_once : (early late : List Action) (k : ℕ) → OvertakesOnce l early late k
  overtakes_once early late k low still =
      let reached = reached_at early in (
        queued_seats_are_overtaken_once_in_schedules (state_after l early) (events_of late) k reached low still,
        queued_seats_wait_for_few_releases_in_schedules (state_after l early) (events_of late) k reached low still,
        (λ t.
            let once = no_seat_overtakes_twice_in_schedules (state_after l early) t (events_of late) k reached low still in
            (once, subst (λ (n : ℕ). n ≤ 1) (entries_of_part (state_after l early) t late) once)),
      )

  pub serves_in_rounds : (early late : List Action) (k : ℕ) → ServesInRounds l early late k
  serves_in_rounds early late k queued =
      let c = state_after l early in
      let reached = reached_at early in
      let seats : length c.seats ≡ l.seats = ap (λ (m : Limits). m.seats) (limits_stay l (events_of early)) in (
        (λ has.
            queued_seats_are_served_in_rounds c (events_of late) k reached queued
            (subst (λ (n : ℕ). HasUnownedRounds (n + 8 * k + 7) c (events_of late)) (sym seats) has)),
        (λ rests release has.
            queued_seats_are_served_in_fair_rounds c (events_of late) k reached rests release queued
            (subst (λ (n : ℕ). HasFairRounds (n + 10 * k + 9 + rounds_to_release c) c (events_of late)) (sym seats) has)),
        (λ has.
            queued_seats_are_served_whatever_owners_begin c (events_of late) k reached queued
            (subst (λ (n : ℕ). HasFullRounds (3 * n + 10 * k + 12 + (seat c.seats c.owner).depth + 5 * calls_of_owners c (events_of late)) c (events_of late)) (sym seats) has)),
      )

  pub pushes_in_rounds : (early late : List Action) (t : ℕ) → PushesInRounds l early late t
  pushes_in_rounds early late t asks =
      let c = state_after l early in
      let reached = reached_at early in
      let size : length c.seats * c.budget ≡ l.seats * l.budget = ap (λ (m : Limits). m.seats * m.budget) (limits_stay l (events_of early)) in (
        (λ has. counted_seats_are_pushed_in_rounds c (events_of late) t reached asks has),
        (λ has.
            counted_seats_are_pushed_within_budgets c (events_of late) t reached asks
            (subst (λ (n : ℕ). HasRounds (4 * n + 2) c (events_of late)) (sym size) has)),
      )

  -- if only these seats have a part in the late actions
  pub ends_calls : (early late : List Action) → ((t : ℕ) → (t ≡ 0) ⊎ (l.seats < t) → late_part l early late t ≡ []) → EndsCalls l early late
  ends_calls early late only =
      let seats : length (state_after l early).seats ≡ l.seats = ap (λ (k : Limits). k.seats) (limits_stay l (events_of early)) in (
        subst (λ (n : ℕ). steps_of_run (state_after l early) (events_of late) ≤ (5 * n + 5) * (n + ended_in_run (state_after l early) (events_of late))) seats
            (some_call_ends_in_schedules (state_after l early) (events_of late) (reached_at early)),
        steps_of_parts l.seats (state_after l early) late seats only,
      )

-- only the seats of a table have a part in the late actions of its run
pub only_seats : {Allowed : Limits → Type 0} {T : Type 0} (follows : ℕ → T → T → Type 0) (fits : T → ℕ → Type 0) (s : State (Option (Moving T)) (View T)) (l : Limits) (early late : List Action) (h : HeldWithin follows fits Allowed s)
    → h.opened ≡ l → h.actions ≡ early ++ late → (t : ℕ) → (t ≡ 0) ⊎ (l.seats < t) → late_part l early late t ≡ []
only_seats follows fits s l early late h opened actions t out =
    let many : length h.core.seats ≡ l.seats =
    ap (λ (c : Core). length c.seats) h.run.here ∙ (ap (λ (k : Limits). k.seats) (limits_stay h.opened (events_of h.actions)) ∙ ap (λ (k : Limits). k.seats) opened) in
    let most : length s.views ≤ length h.core.seats = h.few in
    let all = no_part (start h.opened) t h.actions (h.run.others t (⊎_elim (λ (none : t ≡ 0). inl none) (λ (far : l.seats < t). inr (omega (arith, far, most, many))) out)) in
    rest_is_nil (part_of (start l) t early) (late_part l early late t) (sym (part_join (start l) t early late) ∙ ((λ i. part_of (start (sym opened i)) t (sym actions i)) ∙ all))

module _ {T : Type 0} (follows : ℕ → T → T → Type 0) (fits : T → ℕ → Type 0) where
  abbrev St : Type 0
  St = State (Option (Moving T)) (View T)

  in_limits : (s : St) (l : Limits) (actions : List Action) → HoldsAfter follows fits l actions s → are_in_limits l.seats l.budget ≡ true
  in_limits s l actions holds = ap (λ (k : Limits). are_in_limits k.seats k.budget) (sym holds.1) ∙ holds.0.run.allowed

  led : (s : St) (l : Limits) (actions : List Action) (holds : HoldsAfter follows fits l actions s) → holds.0.core ≡ state_after l actions
  led s l actions holds = holds.0.run.here ∙ (λ i. state_after (holds.1 i) (holds.2 i))

  pub tables_have_a_run : TablesHaveARun follows fits
  tables_have_a_run = (
    (λ s h. (h.opened, h.actions, (h, refl, refl))),
    (λ s l actions holds.
        let h = holds.0 in let here = led s l actions holds in (
          subst (λ (c : Core). IsCore s c) here (core_of follows fits s h),
          subst (λ (t : Limits × List Action × Core). HasRun t.0 t.1 t.2 s.views) (λ i. (holds.1 i, holds.2 i, here i)) h.run,
        )),
  )

  pub seats_know_up_to_their_last_step : SeatsKnowUpToTheirLastStep follows fits
  seats_know_up_to_their_last_step s l early late j v holds at ends none =
      let k = holds.0.run.known j v at in known_once (j + 1) v.actions early k.later late k.ends ends k.of_others none (sym k.goes_on ∙ holds.2)

  pub tables_open_at_the_start : TablesOpenAtTheStart follows fits
  tables_open_at_the_start l x allowed none room suits =
      let ws = replicate (4 + 2 * l.seats) 0 in let at = starts_at follows fits l ws x allowed refl none room suits in ((starts follows fits l ws x allowed refl none room suits, at.0, at.1), refl)

  pub tables_go_on_as_the_core : TablesGoOnAsTheCore follows fits
  tables_go_on_as_the_core s l actions j me p a holds at user became ready =
      let h = holds.0 in
      let i = index p me.0.limits.seats me.0.number in
      let on = led_on follows fits 1 j me p a i (λ n. written p me.0.number n) (λ n. told p me.0.number n) user became refl (λ n. refl) (λ n. refl) ready s h at in
      let more = actions ++ begins_and_step me.0.number me.0.state p in
      let after : St = stepped s i (written p me.0.number (slice_index s.words i)) j me.1 on.0 on.1 in
      let goes : HoldsAfter follows fits l more after = (on.3.0, on.3.2 ∙ holds.1, on.3.3 ∙ ap (λ (d : List Action). d ++ begins_and_step me.0.number me.0.state p) holds.2) in (
        slice_index s.words i,
        on.0,
        on.1,
        refl,
        on.2,
        goes,
        sym (led after l more goes) ∙ (on.3.1 ∙ ap (λ (c : Core). (made (put c me.0.number p) me.0.number).core) (led s l actions holds)),
        on.4,
        on.5 ∙ ap (λ (d : List Action). d ++ begins_and_step me.0.number me.0.state p) holds.2,
      )

  pub other_steps_keep_the_core : OtherStepsKeepTheCore follows fits
  other_steps_keep_the_core l actions = (
    (λ v user room s holds at. let kept = splits_keep follows fits v user room s holds.0 at in (splits follows fits v user room s holds.0 at, kept.0 ∙ holds.1, kept.1 ∙ holds.2)),
    (λ v w other user uses rests flat s holds at apart there.
        let kept = joins_keep follows fits v w other user uses rests flat s holds.0 at apart there in
        (joins follows fits v w other user uses rests flat s holds.0 at apart there, kept.0 ∙ holds.1, kept.1 ∙ holds.2)),
    (λ s j me holds at user.
        let h = holds.0 in
        let on = owner_keeps follows fits j me user s h at in
        let tells = owner_tells follows fits j me user s h at in
        let placed : j + 1 ≡ me.0.number = sym (h.each j me.0 at).number in
        (_, (on.0, on.1 ∙ holds.1, on.2 ∙ (λ i. holds.2 i ++ LoadsOwner (placed i) ∷ [])), led_join (start l) actions (LoadsOwner me.0.number ∷ []), tells)),
  )

  trail_parts : (s : St) (l : Limits) (early late : List Action) (j : ℕ) (v : View T) → HoldsAfter follows fits l (early ++ late) s → get_elem? s.views j ≡ some v
      → v.trail ≡ part_of (start l) (j + 1) early ++ late_part l early late (j + 1)
  trail_parts s l early late j v holds at =
      holds.0.run.trails j v at ∙ ((λ i. part_of (start (holds.1 i)) (j + 1) (holds.2 i)) ∙ part_join (start l) (j + 1) early late)

  pub tables_go_through_reached_states : TablesGoThroughReachedStates follows fits
  tables_go_through_reached_states s l early late holds =
      let allowed = in_limits s l (early ++ late) holds in
      (reached_after l early allowed, budget_after l early allowed, led_join (start l) early late, (λ j v at. trail_parts s l early late j v holds at))

  few : (s : St) (l : Limits) (actions : List Action) → HoldsAfter follows fits l actions s → l.seats ≤ max_seats
  few s l actions holds = few_seats l.seats l.budget (in_limits s l actions holds)

  pub tables_run_as_the_abstract_mutex : TablesRunAsTheAbstractMutex follows fits
  tables_run_as_the_abstract_mutex s l actions holds = runs_as_the_abstract_mutex l (few s l actions holds) actions

  pub tables_serve_in_push_order : TablesServeInPushOrder follows fits
  tables_serve_in_push_order s l actions holds = serves_in_push_order l (few s l actions holds) actions

  pub tables_overtake_once : TablesOvertakeOnce follows fits
  tables_overtake_once s l early late k holds = overtakes_once l (few s l (early ++ late) holds) early late k

  pub tables_serve_in_rounds : TablesServeInRounds follows fits
  tables_serve_in_rounds s l early late k holds = serves_in_rounds l (few s l (early ++ late) holds) early late k

  pub tables_push_in_rounds : TablesPushInRounds follows fits
  tables_push_in_rounds s l early late t holds = pushes_in_rounds l (few s l (early ++ late) holds) early late t

  pub tables_end_calls : TablesEndCalls follows fits
  tables_end_calls s l early late holds = ends_calls l (few s l (early ++ late) holds) early late (only_seats follows fits s l early late holds.0 holds.1 holds.2)

  pub trails_tell_the_pushes : TrailsTellThePushes follows fits
  trails_tell_the_pushes s l actions j v holds at =
      let steady = steady_reached (start l) (reached_after l [] (in_limits s l actions holds)) in
      pushes_told (start l) (j + 1) actions steady ∙ ap (pushes_noted (j + 1)) (sym (trail_parts s l [] actions j v holds at))

  pub trails_tell_the_answers : TrailsTellTheAnswers follows fits
  trails_tell_the_answers s l actions j v holds at =
      let allowed = in_limits s l actions holds in
      answers_told (start l) (j + 1) actions (reached_after l [] allowed, budget_after l [] allowed) ∙ ap (answers_noted (j + 1)) (sym (trail_parts s l [] actions j v holds at))
