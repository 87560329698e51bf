use Rattle.std.proofs.Common.{◌≡◌, ◌<◌, ◌+◌, ◌∙◌, ◌∷◌, true, drop, get_or, length, sym, arith}
use Rattle.std.proofs.lemmas.List.{drop_more}
use Rattle.lfm_script.specs.declared.script.ScriptLine.{ScriptLine}
use Rattle.lfm_script.specs.declared.script.Command.TheVariants.{Add}
use Rattle.lfm_script.specs.script.Limits.{is_there}
use Rattle.lfm_script.proofs.scripts.PerWorker.{Each, Counted, counted_others, counted_one, own, changed, skipped}
use Rattle.lfm_script.proofs.script.commands.count_commands.Goals as goal
use Rattle.lfm_script.proofs.script.commands.count_commands.Goals.{then-is_there, else-is_there}

pub overflow_add-index_mut : goal.overflow_add-index_mut
overflow_add-index_mut c =
    let ls = c.args.lines.now in
    let k = c.counting.line-index in
    let none : ScriptLine = record { worker = 0; command = Add 0 } in
    let l = get_or ls k none in
    let rest = drop (k + 1) ls in
    let counts = c.counting.counts.items in
    let n = c.index_mut.result.now in
    let there : is_there l.worker c.args.workers ≡ true = sym c.is_there.ensures ∙ c.if-is_there.true in
    let each : Each (Counted ls) c.args.workers (l ∷ rest) counts = rw (drop_more ls k none c.counting-test.true) at c.counting.invariant.each in
    let its : Counted ls l.worker (l ∷ rest) n = own (Counted ls) (counted_others ls) l (l ∷ rest) c.args.workers counts n there c.index_mut.ensures.value each in
    let few : n < length ls = (counted_one ls l rest n its).1 in
    search (arith, few)

pub counting-preserved : goal.counting-preserved
counting-preserved c =
    let ls = c.args.lines.now in
    let k = c.counting.line-index in
    let none : ScriptLine = record { worker = 0; command = Add 0 } in
    let l = get_or ls k none in
    let rest = drop (k + 1) ls in
    let counts = c.counting.counts.items in
    let all = c.counting.invariant.count in
    let each : Each (Counted ls) c.args.workers (l ∷ rest) counts = rw (drop_more ls k none c.counting-test.true) at c.counting.invariant.each in
    elim c.if-is_there.branch [
      | then-is_there w ↦
          let there : is_there l.worker c.args.workers ≡ true = sym c.is_there.ensures ∙ w.if-is_there.true in
          let n = w.index_mut.result.now in
          let its : Counted ls l.worker (l ∷ rest) n = own (Counted ls) (counted_others ls) l (l ∷ rest) c.args.workers counts n there w.index_mut.ensures.value each in
          let full : length counts ≡ c.args.workers = omega (arith, all, c.counting.counts.ok.0) in
          rw w.counts-is (record {
            count = all;
            each = changed (Counted ls) (counted_others ls) l rest c.args.workers counts (n + 1) there full (counted_one ls l rest n its).0 each;
          })
      | else-is_there w ↦
          rw w.counts-is (record {
            count = all;
            each = skipped (Counted ls) (counted_others ls) l rest c.args.workers counts (sym c.is_there.ensures ∙ w.if-is_there.false) each;
          })
    ]
