use Rattle.std.proofs.Common.{◌≡◌, ◌-◌, take, drop, ◌∙◌, arith, take_all, length-drop}
use Rattle.lfm_core.proofs.texts.Queued.{further_put}
use Rattle.lfm_core.proofs.text.trace.write_further.Goals as goal

pub returns : goal.returns
returns g c =
    let start = c.put_byte-start.result in
    let bytes = c.put_byte-start.new.buffer in
    let whole : take (42 - start) (drop start bytes) ≡ drop start bytes = take_all (42 - start) (drop start bytes) (omega (arith, length-drop start bytes)) in
    rw (whole ∙ further_put c.args.queued _ _ c.put_record-record.ensures.text c.put_byte-start.ensures.text) at c.write_text.ensures
