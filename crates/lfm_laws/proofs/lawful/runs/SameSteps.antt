-- A step between two abstract states is also a step, of the same case, between two states that are the same as these.
use Rattle.std.proofs.Common.{◌≡◌, ℕ, not, eqb, ◌||◌, ◌&&◌, Option, Some, None, [], ◌∷◌, ◌++◌, sym, ap, ◌∙◌, inl, inr}
use Rattle.std.specs.List.{list_any}
use Rattle.lfm_model.specs.Abstract.{AbstractMutex, AbstractPlace, AbstractStep, HasNothing, HasNobody, HasSomebody, Moves, Joins, Queues, Serves, GoesFrom, names}
use Rattle.lfm_model.specs.Abstract as Abstract
use Rattle.lfm_model.specs.AbstractRuns.{Case, IsSame, case_of}
use Rattle.lfm_laws.specs.laws.Cases.{GoesBy}

module _ (a b a' b' : AbstractMutex) (same : IsSame a a') (end : IsSame b b') where
  same_moves : (from to : AbstractPlace) → Moves a b from to → Moves a' b' from to
  same_moves from to moves =
      record {
        before = same.place ∙ moves.before;
        after = end.place ∙ moves.after;
        asking = λ x. end.asking x ∙ moves.asking x ∙ sym (same.asking x);
        waiting = end.waiting ∙ moves.waiting ∙ sym same.waiting;
      }

  same_joins : (x : ℕ) → Joins a b x → Joins a' b' x
  same_joins x joins =
      record {
        place = end.place ∙ joins.place ∙ sym same.place;
        asking = λ t. end.asking t ∙ joins.asking t ∙ ap (λ asks. asks || eqb t x) (sym (same.asking t));
        waiting = end.waiting ∙ joins.waiting ∙ sym same.waiting;
      }

  same_queues : (x : ℕ) → Queues a b x → Queues a' b' x
  same_queues x queues =
      record {
        asked = same.asking x ∙ queues.asked;
        place = end.place ∙ queues.place ∙ sym same.place;
        asking = λ t. end.asking t ∙ queues.asking t ∙ ap (λ asks. asks && not (eqb t x)) (sym (same.asking t));
        waiting = end.waiting ∙ queues.waiting ∙ ap (λ l. l ++ x ∷ []) (sym same.waiting);
      }

  same_serves : (s w : ℕ) → Serves a b s w → Serves a' b' s w
  same_serves s w serves =
      record {
        before = same.place ∙ serves.before;
        after = end.place ∙ serves.after;
        asking = λ x. end.asking x ∙ serves.asking x ∙ sym (same.asking x);
        waiting = same.waiting ∙ serves.waiting ∙ ap (λ l. w ∷ l) (sym end.waiting);
      }

  same_nothing : (x : ℕ) → HasNothing a x → HasNothing a' x
  same_nothing x nothing =
      record {
        place = ap (λ p. names p x) same.place ∙ nothing.place;
        asking = same.asking x ∙ nothing.asking;
        waiting = ap (list_any (λ w. eqb w x)) same.waiting ∙ nothing.waiting;
      }

  same_nobody : HasNobody a → HasNobody a'
  same_nobody none = record { asking = λ x. same.asking x ∙ none.asking x; waiting = same.waiting ∙ none.waiting }

  same_somebody : HasSomebody a → HasSomebody a'
  same_somebody (x, inl asks) = (x, inl (same.asking x ∙ asks))
  same_somebody (x, inr waits) = (x, inr (ap (list_any (λ w. eqb w x)) same.waiting ∙ waits))

  same_leaves : (s : ℕ) (to : AbstractPlace) → GoesFrom a s to → GoesFrom a' s to
  same_leaves s to (inl (none, gone)) = inl (same_nobody none, gone)
  same_leaves s to (inr (some, kept)) = inr (same_somebody some, kept)

  same_step : (case : Case) (step : AbstractStep a b) → case_of step ≡ case → GoesBy (Some case) a' b'
  same_step case (Abstract.ask_free s x moves) named = (Abstract.ask_free s x (same_moves _ _ moves), named)
  same_step case (Abstract.ask_joins x taken nothing joins) named =
      (Abstract.ask_joins x (λ e. taken (sym same.place ∙ e)) (same_nothing x nothing) (same_joins x joins), named)
  same_step case (Abstract.queue x queues) named = (Abstract.queue x (same_queues x queues), named)
  same_step case (Abstract.serve s w serves) named = (Abstract.serve s w (same_serves s w serves), named)
  same_step case (Abstract.post s somebody moves) named = (Abstract.post s (same_somebody somebody) (same_moves _ _ moves), named)
  same_step case (Abstract.take x moves) named = (Abstract.take x (same_moves _ _ moves), named)
  same_step case (Abstract.accept x moves) named = (Abstract.accept x (same_moves _ _ moves), named)
  same_step case (Abstract.take_up x moves) named = (Abstract.take_up x (same_moves _ _ moves), named)
  same_step case (Abstract.enter s x moves) named = (Abstract.enter s x (same_moves _ _ moves), named)
  same_step case (Abstract.release s moves) named = (Abstract.release s (same_moves _ _ moves), named)
  same_step case (Abstract.leave s to goes moves) named = (Abstract.leave s to (same_leaves s to goes) (same_moves _ _ moves), named)

  pub same_goes : (case : Option Case) → GoesBy case a b → GoesBy case a' b'
  same_goes None stays =
      record {
        place = end.place ∙ stays.place ∙ sym same.place;
        asking = λ x. end.asking x ∙ stays.asking x ∙ sym (same.asking x);
        waiting = end.waiting ∙ stays.waiting ∙ sym same.waiting;
      }
  same_goes (Some case) goes = same_step case goes.0 goes.1
