use Rattle.std.proofs.Common.{◌≡◌, drop, vec_len}
use Rattle.lfm_script.proofs.scripts.PerWorker.{Each, Handed}
use Rattle.lfm_script.proofs.script.commands.commands_by_worker.Given as goal

abbrev pub invariant-handing_out : goal.invariant-handing_out
invariant-handing_out l = record {
  count : vec_len l.commands ≡ l.workers;
  each : Each (Handed l.lines) l.workers (drop l.line-index l.lines) l.commands.items;
}
