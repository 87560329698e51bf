use Rattle.std.proofs.Common.{◌≡◌, ◌<◌, ◌+◌, ◌∙◌, ◌∷◌, ◌++◌, true, drop, get_or, length, sym, ap, arith}
use Rattle.std.proofs.lemmas.List.{drop_more}
use Rattle.lfm_script.specs.declared.script.ScriptLine.{ScriptLine}
use Rattle.lfm_script.specs.declared.script.Command.TheVariants.{Add}
use Rattle.lfm_script.specs.script.Commands.{commands_of}
use Rattle.lfm_script.specs.script.Limits.{is_there}
use Rattle.lfm_script.proofs.scripts.PerWorker.{Each, Handed, handed_others, handed_one, own, changed, skipped}
use Rattle.lfm_script.proofs.script.commands.commands_by_worker.Goals as goal
use Rattle.lfm_script.proofs.script.commands.commands_by_worker.Goals.{then-is_there, else-is_there}

pub handing_out-init : goal.handing_out-init
handing_out-init c =
    let counts = c.deref.result.now in
    let many : length counts ≡ c.args.workers = c.deref.ensures.len ∙ c.in_ok-counts.ensures.count in
    record {
      count = c.in_ok-commands.ensures.count ∙ many;
      each = λ i d within.
          let here : i < length counts = omega (arith, many, within) in
          let told : get_or counts i 0 ≡ length (commands_of (i + 1) c.args.lines.now) = ap (λ xs. get_or xs i 0) c.deref.ensures.value ∙ c.in_ok-counts.ensures.each i 0 within in
          (ap (λ xs. xs ++ commands_of (i + 1) c.args.lines.now) (c.in_ok-commands.ensures.empty i d here), c.in_ok-commands.ensures.room i d 0 here ∙ told);
    }

pub handing_out-preserved : goal.handing_out-preserved
handing_out-preserved c =
    let ls = c.args.lines.now in
    let k = c.handing_out.line-index in
    let none : ScriptLine = record { worker = 0; command = Add 0 } in
    let l = get_or ls k none in
    let rest = drop (k + 1) ls in
    let commands = c.handing_out.commands.items in
    let all = c.handing_out.invariant.count in
    let each : Each (Handed ls) c.args.workers (l ∷ rest) commands = rw (drop_more ls k none c.handing_out-test.true) at c.handing_out.invariant.each in
    elim c.if-is_there.branch [
      | then-is_there w ↦
          let there : is_there l.worker c.args.workers ≡ true = sym c.is_there.ensures ∙ w.if-is_there.true in
          let v = w.index_mut.result.now in
          let its : Handed ls l.worker (l ∷ rest) v = own (Handed ls) (handed_others ls) l (l ∷ rest) c.args.workers commands v there w.index_mut.ensures.value each in
          let full : length commands ≡ c.args.workers = omega (arith, all, c.handing_out.commands.ok.0) in
          let x = w.push_reserved.new.self in
          let one : Handed ls l.worker rest x = handed_one ls l rest v x its w.push_reserved.ensures.items w.push_reserved.ensures.capacity in
          rw w.commands-is (record {
            count = all;
            each = changed (Handed ls) (handed_others ls) l rest c.args.workers commands x there full one each;
          })
      | else-is_there w ↦
          rw w.commands-is (record {
            count = all;
            each = skipped (Handed ls) (handed_others ls) l rest c.args.workers commands (sym c.is_there.ensures ∙ w.if-is_there.false) each;
          })
    ]
