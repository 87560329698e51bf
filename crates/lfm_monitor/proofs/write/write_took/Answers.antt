use Rattle.std.proofs.Common.{ℕ, ap, subst, sym, ◌∙◌, ◌++◌, ◌∷◌, []}
use Rattle.lfm_model.specs.Journals.{entry}
use Rattle.lfm_model.specs.declared.journals.What.TheVariants.{Took}
use Rattle.lfm_monitor.specs.Writes.{MayWrite}
use Rattle.lfm_mutex.proofs.runs.RunGoesOn.{run_stays_at}
use Rattle.lfm_monitor.proofs.write.write_took.Goals as goal

pub took-requires-clause-seat : goal.took-requires-clause-seat
took-requires-clause-seat g c κs within = let v = c.in-Some.journaled.now in let m = subst (λ (n : ℕ). MayWrite n v) (sym c.number-number.ensures) (c.requires.may v c.in-Some.ensures.value.1).0 in (m.0, m.1)

pub took-requires-clause-share : goal.took-requires-clause-share
took-requires-clause-share g c κs within = let v = c.in-Some.journaled.now in let m = subst (λ (n : ℕ). MayWrite n v) (sym c.number-number.ensures) (c.requires.may v c.in-Some.ensures.value.1).0 in m.2

pub took-requires-clause-how : goal.took-requires-clause-how
took-requires-clause-how g c κs within = (c.requires.may c.in-Some.journaled.now c.in-Some.ensures.value.1).1

pub returns : goal.returns
returns g c = let v = c.in-Some.journaled.now in let h = rw c.in-Some.is at (c.value_mut.follows.holds c.took.new.self) in let x = c.took.ensures in (
  v,
  c.took.new.self,
  c.in-Some.ensures.value.1,
  h.0,
  x.journal ∙ ap (λ n. v.journal.items ++ entry n (Took c.args.how) ∷ []) c.number-number.ensures,
  (ap (λ s. s.value) x.same.0, x.same.1, x.same.2),
  (ap (λ p. p.table_id) h.1, h.3),
  h.5,
  run_stays_at (ap (λ p. p.me.0) h.1),
)
