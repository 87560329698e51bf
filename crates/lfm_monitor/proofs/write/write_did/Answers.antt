use Rattle.std.proofs.Common.{ℕ, ◌≡◌, Some, ap, subst, sym, ◌∙◌, ◌++◌, ◌∷◌, []}
use Rattle.lfm_model.specs.Journals.{entry}
use Rattle.lfm_model.specs.declared.journals.What.TheVariants.{Did}
use Rattle.lfm_monitor.specs.Writes.{MayWrite}
use Rattle.lfm_monitor.proofs.Knowing.{one_some}
use Rattle.lfm_mutex.proofs.runs.RunGoesOn.{run_stays_at}
use Rattle.lfm_monitor.proofs.write.write_did.Goals as goal

pub did-requires-clause-seat : goal.did-requires-clause-seat
did-requires-clause-seat g c κs within = let v = c.in-Some.journaled.now in let m = subst (λ (n : ℕ). MayWrite n v) (sym c.number-number.ensures) (c.requires.may v c.in-Some.ensures.value.1).0 in (m.0, m.1)

pub did-requires-clause-share : goal.did-requires-clause-share
did-requires-clause-share g c κs within = let v = c.in-Some.journaled.now in let m = subst (λ (n : ℕ). MayWrite n v) (sym c.number-number.ensures) (c.requires.may v c.in-Some.ensures.value.1).0 in m.2

pub did-requires-clause-taker : goal.did-requires-clause-taker
did-requires-clause-taker g c κs within = (c.requires.may c.in-Some.journaled.now c.in-Some.ensures.value.1).1 ∙ ap Some (sym c.number-number.ensures)

pub returns-clause-writes : goal.returns-clause-writes
returns-clause-writes g c = let v = c.in-Some.journaled.now in let h = rw c.in-Some.is at (c.value_mut.follows.holds c.did.new.self) in let x = c.did.ensures in (
  v,
  c.did.new.self,
  c.in-Some.ensures.value.1,
  h.0,
  x.journal ∙ ap (λ n. v.journal.items ++ entry n (Did c.args.op) ∷ []) c.number-number.ensures,
  (ap (λ s. s.value) x.same.0, x.same.1, x.same.2),
  (ap (λ p. p.table_id) h.1, h.3),
  h.5,
  run_stays_at (ap (λ p. p.me.0) h.1),
)

pub returns-clause-object : goal.returns-clause-object
returns-clause-object g c v w old new = let h = rw c.in-Some.is at (c.value_mut.follows.holds c.did.new.self) in let was : c.in-Some.journaled.now ≡ v = one_some _ _ _ c.in-Some.ensures.value.1 old in
    let now : c.did.new.self ≡ w = one_some _ _ _ (ap (λ u. u.value) h.0) new in ap (λ b. b.object) (sym now) ∙ (c.did.ensures.object ∙ ap (λ b. g.O.Object.after b.object c.args.op) was)
