use Rattle.std.proofs.Common.{arith, ap, sym, subst, ◌∙◌, ◌≡◌, ◌⊎◌, inl, inr, ⊎_elim, ◌+◌, ◌++◌, ◌∷◌, [], ℕ, suc, Option, length}
use Rattle.std.specs.Vec.Iter.{into_iter_items}
use mathlib.Core.Logic.{dite}
use mathlib.Core.Option.{some, some-injective}
use lib.ListN.{get_elem?}
use native.Mathlib.Decide.{ℕ_discrete}
use Rattle.lfm_model.specs.declared.refusals.Refusal.{Refusal}
use Rattle.lfm_monitor.proofs.Places.{in_range, stands_before, stands_last}
use Rattle.lfm_program.specs.ScriptRuns.{EndsSo, HasStopped}
use Rattle.lfm_script.specs.declared.faults.WorkFault.TheVariants.{Memory, Stuck}
use Rattle.lfm_program.specs.declared.workers.Worked.{Worked}
use Rattle.lfm_program.proofs.Threads.{fault_is, in_place}
use Rattle.lfm_program.proofs.script_run.divide.Goals as goal

pub dividing-init : goal.dividing-init
dividing-init c = let from = c.into_iter-one-iterator.ensures.into_iter_gives.0 in let ws = c.args.worked in let none = c.in_ok-passes.ensures.items in record {
  long = (let l = c.into_iter-one-iterator.ensures.into_iter_gives.1 in let a = ap length from in let q = ws.ok in omega arith);
  size = (let a = ap length none in let b = ap length from in omega arith);
  same = (let a = ap length none in let b = ap length c.in_ok-refusals.ensures.items in omega arith);
  room = (
    (let a = c.in_ok-passes.ensures.capacity in let b = c.len.ensures in let q = ws.ok in omega arith),
    (let a = c.in_ok-refusals.ensures.capacity in let b = c.len-2.ensures in let q = ws.ok in omega arith),
  );
  rest = λ i w at. let e : length c.in_ok-passes.passes.items + i ≡ i = (let a = ap length none in omega arith) in subst (λ (l : _). get_elem? l (length c.in_ok-passes.passes.items + i) ≡ some w) from
      (subst (λ (n : ℕ). get_elem? (into_iter_items c.into_iter-one-iterator.result) n ≡ some w) (sym e) at);
  each = λ j w lt at. absurd (let a = ap length none in omega arith);
}

pub dividing-preserved : goal.dividing-preserved
dividing-preserved c = let i = c.dividing.invariant in let one = c.in-Some.one in let ps = c.dividing.passes.items in let rs = c.dividing.refusals.items in
    let steps : into_iter_items c.dividing.one-iterator ≡ one ∷ into_iter_items c.next.new.self = c.in-Some.ensures.steps.0 in
    let passes = c.push_reserved.ensures.items in let refusals = c.push_reserved-in-dividing.ensures.items in
    let P : ℕ → Worked → Type 0 = λ j w.
    (get_elem? c.push_reserved.new.self.items j ≡ some w.pass) × ((r : Option Refusal) × (get_elem? c.push_reserved-in-dividing.new.self.items j ≡ some r) × EndsSo w.end r) in
    let more = ap length passes in let as_many = ap length refusals in
    let here : get_elem? c.args.worked.items (length ps) ≡ some one = in_place c.args.worked.items (length ps) one (i.rest 0 one (ap (λ l. get_elem? l 0) steps)) in
    let last : P (length ps) one = (
      subst (λ (l : _). get_elem? l (length ps) ≡ some one.pass) (sym passes) (stands_last ps one.pass),
      (
        c.in_ok-refused.refused,
        subst (λ (l : _). get_elem? l (length ps) ≡ some c.in_ok-refused.refused) (sym refusals)
            (subst (λ (n : ℕ). get_elem? (rs ++ c.in_ok-refused.refused ∷ []) n ≡ some c.in_ok-refused.refused) i.same (stands_last rs c.in_ok-refused.refused)),
        c.in_ok-refused.ensures.refused,
      ),
    ) in record {
      long = (let a = i.long in let b = c.in-Some.ensures.steps.1 in let d = ap length steps in omega arith);
      size = (let a = ap length steps in let z = i.size in omega arith);
      same = (let z = i.same in omega arith);
      room = (
        (let a = c.push_reserved.ensures.capacity in let b = i.room.0 in omega arith),
        (let a = c.push_reserved-in-dividing.ensures.capacity in let b = i.room.1 in omega arith),
      );
      rest = λ k w at. let was = i.rest (suc k) w (ap (λ l. get_elem? l (suc k)) steps ∙ at) in let e : length ps + suc k ≡ length c.push_reserved.new.self.items + k = omega arith in
          subst (λ (n : ℕ). get_elem? c.args.worked.items n ≡ some w) e was;
      each = λ j w lt at. dite (ℕ_discrete j (length ps))
          (λ (e : j ≡ length ps). let same : one ≡ w = some-injective one w (sym here ∙ subst (λ (n : ℕ). get_elem? c.args.worked.items n ≡ some w) e at) in
          subst (λ (n : ℕ). P n w) (sym e) (subst (λ (x : Worked). P (length ps) x) same last))
          (λ ne. let was = i.each j w (omega arith) at in let told = was.1 in (
            subst (λ (l : _). get_elem? l j ≡ some w.pass) (sym passes) (stands_before ps _ j w.pass was.0),
            (told.0, subst (λ (l : _). get_elem? l j ≡ some told.0) (sym refusals) (stands_before rs _ j told.0 told.1), told.2),
          ));
    }

pub returns : goal.returns
returns c = let i = c.dividing.invariant in let none = c.in-None.ensures.steps.0 in let many : length c.dividing.passes.items ≡ length c.args.worked.items = (let a = i.size in let b = i.long in omega arith) in record {
  divides = record {
    many = many;
    as_many = i.same ∙ many;
    each = λ j w at. i.each j w (let lt = in_range c.args.worked.items j w at in omega arith) at;
  };
  fault = tt;
}

-- the worker at which the loop ends was stopped
pub returns-in_err-refused-clause-fault : goal.returns-in_err-refused-clause-fault
returns-in_err-refused-clause-fault c =
    let at : get_elem? c.args.worked.items (length c.dividing.passes.items) ≡ some c.in-Some.one =
    in_place c.args.worked.items (length c.dividing.passes.items) c.in-Some.one (c.dividing.invariant.rest 0 c.in-Some.one (ap (λ l. get_elem? l 0) c.in-Some.ensures.steps.0)) in
    let stopped = c.in_err-refused.ensures.stopped in
    fault_is (λ e. (e ≡ Memory) ⊎ ((e ≡ Stuck) × HasStopped c.args.worked.items)) c.from_residual-in_err-refused.result c.in_err-refused.field-0.0 c.from_residual-in_err-refused.ensures.1
    (⊎_elim inl (λ s. inr (s.0, (length c.dividing.passes.items, c.in-Some.one, at, s.1))) stopped)
