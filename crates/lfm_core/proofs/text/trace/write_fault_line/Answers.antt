use Rattle.std.proofs.Common.{◌≡◌, ◌≢◌, ℕ, List, refl, sym, subst}
use Rattle.lfm_text.specs.FaultLines.{limit_text}
use Rattle.lfm_text.specs.Writing.{Writes}
use Rattle.lfm_core.specs.declared.text.faults.ReplayFault.{ReplayFault}
use Rattle.lfm_core.specs.declared.text.faults.ReplayFault.TheVariants.{Syntax, Limit, Read, Write, Memory}
use Rattle.lfm_core.specs.text.Trace.{fault_text}
use Rattle.lfm_core.proofs.text.trace.write_fault_line.Goals as goal

-- every fault except a line that can't be read is reported as Limit
limit_told : (fault : ReplayFault) → ((n : ℕ) → fault ≢ Syntax n) → fault_text fault ≡ limit_text
limit_told (Syntax n) other = absurd (other n refl)
limit_told Limit other = refl
limit_told Read other = refl
limit_told Write other = refl
limit_told Memory other = refl

pub returns-in_default : goal.returns-in_default
returns-in_default g c =
    subst (λ (text : List ℕ). Writes (g.W.Write.contents c.args.writer.now) (g.W.Write.contents c.write_limit_line.new.writer) text c.write_limit_line.result)
    (sym (limit_told c.args.fault c.in_default.not-Syntax)) c.write_limit_line.ensures
