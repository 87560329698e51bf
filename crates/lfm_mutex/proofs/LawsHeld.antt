-- What the rule of the table states about a running mutex, from the laws of the core, and what a seat knows of its mutex.
use Rattle.std.proofs.Common.{ℕ, Option, ap, ◌∙◌}
use Rattle.lfm_table.specs.Table.{State}
use Rattle.lfm_laws.specs.steady.Steady.{Steady}
use Rattle.lfm_laws.proofs.lawful.states.StateLaws as StateLaws
use Rattle.lfm_laws.proofs.lawful.states.StateLaws.{states_are_lawful, handoffs_are_watched, quiescent_states_rest}
use Rattle.lfm_table.specs.declared.rule.Moving.{Moving}
use Rattle.lfm_table.specs.declared.seat_view.View.{View}
use Rattle.lfm_mutex.specs.Laws.{IsCore, TablesAreSteady, PostsAreWatched, QuietTablesRest, TakesFindARecord, KnowsItsMutex}
use Rattle.lfm_protocol.specs.declared.limits.Limits.{Limits}
use Rattle.lfm_table.specs.Rule.{Held}
use Rattle.lfm_table.proofs.tables.Actions.{run_budget}

module _ {T : Type 0} (follows : ℕ → T → T → Type 0) (fits : T → ℕ → Type 0) where
  pub core_of : (s : State (Option (Moving T)) (View T)) (h : Held follows fits s) → IsCore s h.core
  core_of s h = record { words_are = h.words_are; seats_are = λ j v at. (h.each j v at).state }

  pub steady_of : (s : State (Option (Moving T)) (View T)) (h : Held follows fits s) → Steady h.core
  steady_of s h = record { ghost_state = h.ghost_state; fits = h.fits }

  pub tables_are_steady : TablesAreSteady follows fits
  tables_are_steady s h = (h.core, core_of s h, steady_of s h, run_budget h.opened h.actions h.core s.views h.run, states_are_lawful h.core (steady_of s h))

  pub posts_are_watched : PostsAreWatched follows fits
  posts_are_watched s h = (h.core, core_of s h, handoffs_are_watched h.core (steady_of s h))

  pub quiet_tables_rest : QuietTablesRest follows fits
  quiet_tables_rest s h = (h.core, core_of s h, quiescent_states_rest h.core (steady_of s h))

  pub takes_find_a_record : TakesFindARecord follows fits
  takes_find_a_record s h = (h.core, core_of s h, λ k carrier. StateLaws.takes_find_a_record h.core k carrier (steady_of s h))

pub seats_know_their_mutex : (T : Type 0) → KnowsItsMutex T
seats_know_their_mutex T s m of = ap (λ (l : Limits). l.seats) (s.seated.limits_are ∙ of.1)
