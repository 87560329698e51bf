-- Which passes are a monitor's, in the form that tests in one thread use.
use Rattle.lfm_model.specs.declared.objects.Total.{Total}
use Rattle.lfm_model.specs.declared.objects.TotalOp.{TotalOp}
use Rattle.lfm_monitor.specs.declared.monitor.Monitor.{Monitor}
use Rattle.lfm_monitor.specs.declared.pass.Pass.{Pass}
use Rattle.lfm_monitor.specs.Belongs.{OfMonitor}

module _ {R : Type 0} {K : _} where
  -- The pass is one of the monitor's. This is a record, so that proofs of many calls compare it by the pass and the monitor,
  -- and not by its fields.
  pub record Ours (p : Pass Total TotalOp R K) (m : Monitor Total TotalOp R K) : Type 0 where
    pub belongs : OfMonitor p m
