use Rattle.std.proofs.Common.{◌≡◌, drop, vec_len}
use Rattle.lfm_script.proofs.scripts.PerWorker.{Each, Counted}
use Rattle.lfm_script.proofs.script.commands.count_commands.Given as goal

abbrev pub invariant-counting : goal.invariant-counting
invariant-counting l = record {
  count : vec_len l.counts ≡ l.workers;
  each : Each (Counted l.lines) l.workers (drop l.line-index l.lines) l.counts.items;
}
