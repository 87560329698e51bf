-- The type owns nothing, so its values may move to another thread.
use denote.Param.Send.{IsSend, owning_send, sendable}
use Rattle.lfm_pool.specs.contracts.wake_up.off_trail.OffTrail.{the_row, the_type}

pub send : IsSend the_row
send = owning_send the_type (search sendable, tt) (λ d. tt) (λ k x w. tt)
