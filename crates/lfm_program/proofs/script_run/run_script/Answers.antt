use Rattle.std.proofs.Common.{◌⊎◌, inl, inr, ⊎_elim, ap, arith, length, subst, sym, true, ◌∙◌, ◌≡◌, ◌<◌, ◌^◌, ℕ}
use Rattle.lfm_model.specs.Journals.{LawfulJournal, Within, after_all}
use Rattle.lfm_model.specs.Totals.{total_after}
use Rattle.lfm_monitor.specs.Belongs.{pass_sight, passes_of}
use Rattle.lfm_script.specs.Adds.{adds}
use Rattle.lfm_script.specs.Rows.{refusal_at, rows_from, run_row}
use Rattle.lfm_program.specs.ScriptRuns.{are_none}
use Rattle.lfm_script.specs.script.Grammar.{script_of}
use Rattle.lfm_script.specs.script.Limits.{header_allowed, lines_allowed}
use Rattle.std.specs.List.{sum}
use Rattle.lfm_script.specs.declared.faults.WorkFault.TheVariants.{Memory, Stuck}
use Rattle.lfm_program.specs.Workers.{StopsIn}
use Rattle.lfm_program.proofs.Threads.{fault_is}
use Rattle.lfm_program.proofs.JournalEnds.{none_missing}
use Rattle.lfm_program.proofs.RunEnds.{and_true, both_true, by_workers, collected, in_shares, ran, reported, stopped_in}
use Rattle.lfm_script.proofs.RunReports.{adds_made}
use Rattle.lfm_program.proofs.script_run.run_script.Goals as goal

pub run_workers-requires-clause-ready : goal.run_workers-requires-clause-ready
run_workers-requires-clause-ready g c κs within j p at = let new = c.in_ok-monitor.ensures.ready.passes j p at in (new.belongs, (ap (λ s. s.depth) new.sees, ap (λ s. s.asleep) new.sees))

pub close-requires-clause-belongs : goal.close-requires-clause-belongs
close-requires-clause-belongs g c κs j q at =
    let many : length c.deref-2.result.now ≡ c.args.script.now.workers = (let a = ap length c.deref-2.ensures.value in let b = c.in_ok-commands.ensures.count in let d = c.in_ok-commands.commands.ok in omega arith) in
    let as_many : length c.in_ok-worked.worked.items ≡ length c.deref-2.result.now = (let a = c.in_ok-worked.ensures.count in let b = c.in_ok-worked.worked.ok in omega arith) in
    let back = collected c.in_ok-monitor.monitor (g.G.Gate.stops c.args.gate.now) (script_of c.args.script.now) c.deref-2.result.now c.in_ok-commands.commands.items c.deref.result.now c.in_ok-monitor.passes.items c.in_ok-worked.worked.items
    c.in_ok-passes.passes.items c.in_ok-passes.refusals.items c.in_ok-monitor.ensures.ready c.deref-2.ensures.value c.deref.ensures.value many c.in_ok-commands.ensures.each
    c.in_ok-worked.ensures.each as_many c.in_ok-passes.ensures.divides in
    (back.each j q at).belongs

pub unreachable-requires : goal.unreachable-requires
unreachable-requires g c =
    let many : length c.deref-2.result.now ≡ c.args.script.now.workers = (let a = ap length c.deref-2.ensures.value in let b = c.in_ok-commands.ensures.count in let d = c.in_ok-commands.commands.ok in omega arith) in
    let as_many : length c.in_ok-worked.worked.items ≡ length c.deref-2.result.now = (let a = c.in_ok-worked.ensures.count in let b = c.in_ok-worked.worked.ok in omega arith) in
    let back = collected c.in_ok-monitor.monitor (g.G.Gate.stops c.args.gate.now) (script_of c.args.script.now) c.deref-2.result.now c.in_ok-commands.commands.items c.deref.result.now c.in_ok-monitor.passes.items c.in_ok-worked.worked.items
    c.in_ok-passes.passes.items c.in_ok-passes.refusals.items c.in_ok-monitor.ensures.ready c.deref-2.ensures.value c.deref.ensures.value many c.in_ok-commands.ensures.each
    c.in_ok-worked.ensures.each as_many c.in_ok-passes.ensures.divides in
    let m = c.in_ok-monitor.monitor in let ps = c.in_ok-passes.passes.items in
    none_missing (λ q. pass_sight q) ps (passes_of m) c.in_default.field-0.2 (back.many ∙ sym c.in_ok-monitor.ensures.ready.monitor_has) (λ j q at. let b = back.each j q at in (b.idle, b.number)) c.in_default.ensures.missing.2

pub rows_of-requires-clause-within : goal.rows_of-requires-clause-within
rows_of-requires-clause-within g c =
    let many : length c.deref-2.result.now ≡ c.args.script.now.workers = (let a = ap length c.deref-2.ensures.value in let b = c.in_ok-commands.ensures.count in let d = c.in_ok-commands.commands.ok in omega arith) in
    let as_many : length c.in_ok-worked.worked.items ≡ length c.deref-2.result.now = (let a = c.in_ok-worked.ensures.count in let b = c.in_ok-worked.worked.ok in omega arith) in
    let back = collected c.in_ok-monitor.monitor (g.G.Gate.stops c.args.gate.now) (script_of c.args.script.now) c.deref-2.result.now c.in_ok-commands.commands.items c.deref.result.now c.in_ok-monitor.passes.items c.in_ok-worked.worked.items
    c.in_ok-passes.passes.items c.in_ok-passes.refusals.items c.in_ok-monitor.ensures.ready c.deref-2.ensures.value c.deref.ensures.value many c.in_ok-commands.ensures.each
    c.in_ok-worked.ensures.each as_many c.in_ok-passes.ensures.divides in
    let plan = script_of c.args.script.now in let ps = c.in_ok-passes.passes.items in let rs = c.in_ok-passes.refusals.items in let es = c.in-Ok.journal.items in
    let within : Within c.args.script.now.workers es = by_workers c.in_ok-monitor.monitor plan rs ps es back (λ j q at. (c.in-Ok.ensures.mine j q at).1)
    (let a = c.in-Ok.ensures.whole in let b = c.in-Ok.journal.ok in omega arith) in
    let as_rows : c.args.script.now.workers ≡ length c.deref-3.result.now = sym (ap length c.deref-3.ensures.value ∙ back.as_many) in
    subst (λ xs. Within (length c.deref-3.result.now) xs) (sym c.deref-4.ensures.value) (subst (λ (n : ℕ). Within n es) as_rows within)

pub rows_of-requires-clause-fits : goal.rows_of-requires-clause-fits
rows_of-requires-clause-fits g c =
    let many : length c.deref-2.result.now ≡ c.args.script.now.workers = (let a = ap length c.deref-2.ensures.value in let b = c.in_ok-commands.ensures.count in let d = c.in_ok-commands.commands.ok in omega arith) in
    let as_many : length c.in_ok-worked.worked.items ≡ length c.deref-2.result.now = (let a = c.in_ok-worked.ensures.count in let b = c.in_ok-worked.worked.ok in omega arith) in
    let back = collected c.in_ok-monitor.monitor (g.G.Gate.stops c.args.gate.now) (script_of c.args.script.now) c.deref-2.result.now c.in_ok-commands.commands.items c.deref.result.now c.in_ok-monitor.passes.items c.in_ok-worked.worked.items
    c.in_ok-passes.passes.items c.in_ok-passes.refusals.items c.in_ok-monitor.ensures.ready c.deref-2.ensures.value c.deref.ensures.value many c.in_ok-commands.ensures.each
    c.in_ok-worked.ensures.each as_many c.in_ok-passes.ensures.divides in
    let plan = script_of c.args.script.now in let ps = c.in_ok-passes.passes.items in let rs = c.in_ok-passes.refusals.items in let es = c.in-Ok.journal.items in
    let within : Within c.args.script.now.workers es = by_workers c.in_ok-monitor.monitor plan rs ps es back (λ j q at. (c.in-Ok.ensures.mine j q at).1)
    (let a = c.in-Ok.ensures.whole in let b = c.in-Ok.journal.ok in omega arith) in
    let is_allowed = both_true (header_allowed plan.workers plan.conditions) (lines_allowed plan.workers plan.conditions plan.lines) c.requires.header c.requires.lines in
    let made = ran c.in_ok-monitor.monitor plan rs ps es c.in_ok-monitor.ensures.ready.conditions_are back (λ j q at. (c.in-Ok.ensures.mine j q at).0) in
    subst (λ xs. sum (adds xs) < 2 ^ 64) (sym c.deref-4.ensures.value) (adds_made plan made.made es is_allowed c.requires.few within made.run).fits

pub returns-clause-report : goal.returns-clause-report
returns-clause-report g c =
    let many : length c.deref-2.result.now ≡ c.args.script.now.workers = (let a = ap length c.deref-2.ensures.value in let b = c.in_ok-commands.ensures.count in let d = c.in_ok-commands.commands.ok in omega arith) in
    let as_many : length c.in_ok-worked.worked.items ≡ length c.deref-2.result.now = (let a = c.in_ok-worked.ensures.count in let b = c.in_ok-worked.worked.ok in omega arith) in
    let back = collected c.in_ok-monitor.monitor (g.G.Gate.stops c.args.gate.now) (script_of c.args.script.now) c.deref-2.result.now c.in_ok-commands.commands.items c.deref.result.now c.in_ok-monitor.passes.items c.in_ok-worked.worked.items
    c.in_ok-passes.passes.items c.in_ok-passes.refusals.items c.in_ok-monitor.ensures.ready c.deref-2.ensures.value c.deref.ensures.value many c.in_ok-commands.ensures.each
    c.in_ok-worked.ensures.each as_many c.in_ok-passes.ensures.divides in
    let plan = script_of c.args.script.now in let ps = c.in_ok-passes.passes.items in let rs = c.in_ok-passes.refusals.items in let es = c.in-Ok.journal.items in
    let within : Within c.args.script.now.workers es = by_workers c.in_ok-monitor.monitor plan rs ps es back (λ j q at. (c.in-Ok.ensures.mine j q at).1)
    (let a = c.in-Ok.ensures.whole in let b = c.in-Ok.journal.ok in omega arith) in
    let is_allowed = both_true (header_allowed plan.workers plan.conditions) (lines_allowed plan.workers plan.conditions plan.lines) c.requires.header c.requires.lines in
    let made = ran c.in_ok-monitor.monitor plan rs ps es c.in_ok-monitor.ensures.ready.conditions_are back (λ j q at. (c.in-Ok.ensures.mine j q at).0) in
    let shares = in_shares c.in_ok-monitor.monitor plan rs ps es c.in_ok-monitor.ensures.ready.share back (λ j q at. (c.in-Ok.ensures.mine j q at).1) in
    let rows = subst (λ xs. c.in_ok-rows.rows.items ≡ rows_from (run_row xs (refusal_at rs)) 1 plan.workers) c.deref-4.ensures.value
    (subst (λ (n : ℕ). c.in_ok-rows.rows.items ≡ rows_from (run_row c.deref-4.result.now (refusal_at rs)) 1 n) back.as_many
    (subst (λ qs. c.in_ok-rows.rows.items ≡ rows_from (run_row c.deref-4.result.now (refusal_at qs)) 1 (length qs)) c.deref-3.ensures.value c.in_ok-rows.ensures)) in
    let total_is = c.in-Ok.ensures.legal.0 ∙ ap (λ o. after_all total_after o es) c.in_ok-monitor.ensures.ready.opening in
    let lawful_is : c.in_ok-lawful.lawful ≡ true = c.in_ok-lawful.ensures.complete (subst LawfulJournal (sym c.deref-5.ensures.value) c.in-Ok.ensures.legal.1)
    (subst (λ xs. c.in-Ok.total ≡ after_all total_after (record { 0 = 0 }) xs) (sym c.deref-5.ensures.value) total_is) in
    reported plan rs es c.in_ok-rows.rows.items c.in-Ok.total _ c.in_ok-lawful.lawful _ is_allowed c.requires.few within c.in-Ok.ensures.legal.1 shares made back.as_many rows c.in-Ok.ensures.legal.0
    c.in_ok-monitor.ensures.ready.opening lawful_is (and_true c.none_refused.result c.in_ok-lawful.lawful (are_none rs) (c.none_refused.ensures ∙ ap are_none c.deref-6.ensures.value) lawful_is)

-- the stopped worker has a command before which the gate may stop it
pub returns-in_err-passes-clause-fault : goal.returns-in_err-passes-clause-fault
returns-in_err-passes-clause-fault g c =
    let many : length c.deref-2.result.now ≡ c.args.script.now.workers = (let a = ap length c.deref-2.ensures.value in let b = c.in_ok-commands.ensures.count in let d = c.in_ok-commands.commands.ok in omega arith) in
    let stops = g.G.Gate.stops c.args.gate.now in let plan = script_of c.args.script.now in
    fault_is (λ e. (e ≡ Memory) ⊎ ((e ≡ Stuck) × StopsIn stops plan)) c.from_residual-in_err-passes.result _ c.from_residual-in_err-passes.ensures.1
    (⊎_elim inl (λ s. inr (
      s.0,
      stopped_in c.in_ok-monitor.monitor stops plan c.deref-2.result.now c.in_ok-commands.commands.items c.deref.result.now c.in_ok-monitor.passes.items c.in_ok-worked.worked.items
          c.in_ok-monitor.ensures.ready c.deref-2.ensures.value c.deref.ensures.value many c.in_ok-commands.ensures.each c.in_ok-worked.ensures.each s.1,
    )) c.in_err-passes.ensures.fault)
