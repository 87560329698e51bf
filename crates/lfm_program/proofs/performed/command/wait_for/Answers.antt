use Rattle.std.proofs.Common.{append-nil, ap, rules, ◌∙◌, ◌≡◌, Err}
use Rattle.lfm_model.specs.Totals.{total_after, total_reply}
use Rattle.lfm_model.specs.declared.objects.TotalOp.TheVariants.{Read}
use Rattle.lfm_monitor.specs.Belongs.{mine_of, pass_sight, seen_of, share_of}
use Rattle.lfm_program.specs.Performs.{own_adds}
use Rattle.lfm_program.proofs.Commands.{applied, not_waited, waited}
use Rattle.lfm_program.proofs.Refusing.{not_waited_for}
use Rattle.lfm_program.proofs.performed.command.wait_for.Goals as goal

pub waiting-preserved : goal.waiting-preserved
waiting-preserved g c = let i = c.waiting.invariant in let s = pass_sight c.waiting.pass in let t = pass_sight c.apply.new.pass in let u = pass_sight c.wait.new.pass in
    let a = applied total_after total_reply (share_of c.args.monitor.now) Read s t (mine_of c.waiting.pass) (mine_of c.apply.new.pass) c.in_ok-total.total i.holds c.in_ok-total.ensures.applies in
    let w = waited t u (seen_of c.apply.new.pass) (seen_of c.wait.new.pass) (mine_of c.apply.new.pass) (mine_of c.wait.new.pass) c.in_ok-wait.field-0 c.in_ok-wait.ensures.returns in
    record {
      belongs = c.wait.ensures.belongs;
      holds = w.1;
      number = w.0.number ∙ (a.0.number ∙ i.number);
      adds = w.0.adds_are ∙ (append-nil (own_adds t) ∙ (a.0.adds_are ∙ (append-nil (own_adds s) ∙ i.adds)));
    }

pub returns-then-total-bound-clause-adds : goal.returns-then-total-bound-clause-adds
returns-then-total-bound-clause-adds g c = let i = c.waiting.invariant in let s = pass_sight c.waiting.pass in let t = pass_sight c.apply.new.pass in
    let a = applied total_after total_reply (share_of c.args.monitor.now) Read s t (mine_of c.waiting.pass) (mine_of c.apply.new.pass) c.in_ok-total.total i.holds c.in_ok-total.ensures.applies in
    a.0.adds_are ∙ (append-nil (own_adds s) ∙ i.adds)

pub returns-in_err-wait-clause-adds : goal.returns-in_err-wait-clause-adds
returns-in_err-wait-clause-adds g c = let i = c.waiting.invariant in let s = pass_sight c.waiting.pass in let t = pass_sight c.apply.new.pass in let u = pass_sight c.wait.new.pass in
    let a = applied total_after total_reply (share_of c.args.monitor.now) Read s t (mine_of c.waiting.pass) (mine_of c.apply.new.pass) c.in_ok-total.total i.holds c.in_ok-total.ensures.applies in
    let same = not_waited t u (seen_of c.apply.new.pass) (seen_of c.wait.new.pass) (mine_of c.apply.new.pass) (mine_of c.wait.new.pass) c.in_err-wait.field-0.0 c.in_err-wait.ensures.returns in
    ap own_adds same ∙ (a.0.adds_are ∙ (append-nil (own_adds s) ∙ i.adds))

pub returns-in_err-wait-clause-refused : goal.returns-in_err-wait-clause-refused
returns-in_err-wait-clause-refused g c = let i = c.waiting.invariant in let s = pass_sight c.waiting.pass in let t = pass_sight c.apply.new.pass in
    let a = applied total_after total_reply (share_of c.args.monitor.now) Read s t (mine_of c.waiting.pass) (mine_of c.apply.new.pass) c.in_ok-total.total i.holds c.in_ok-total.ensures.applies in
    let e : c.from_residual-in_err-wait.result ≡ Err c.in_err-wait.field-0.0 = search rules in
    rw e (λ sent. not_waited_for c.args.monitor.now c.apply.new.pass c.wait.new.pass c.args.condition c.args.bound c.in_err-wait.field-0.0 a.1 (c.in_err-wait.ensures.waits sent) c.in_err-wait.ensures.returns.2)
