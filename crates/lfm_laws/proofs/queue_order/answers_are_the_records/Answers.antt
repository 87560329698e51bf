use Rattle.lfm_laws.proofs.lawful.runs.PushOrder.{answers_are_the_records}
use Rattle.lfm_laws.proofs.queue_order.answers_are_the_records.Goals as goal

pub returns : goal.returns
returns c = answers_are_the_records
