use Rattle.lfm_core.proofs.text.trace.write_why.Goals as goal

pub returns-in-NoSuchSeat : goal.returns-in-NoSuchSeat
returns-in-NoSuchSeat g c = rw c.in-NoSuchSeat.is c.write_text.ensures

pub returns-in-InCall : goal.returns-in-InCall
returns-in-InCall g c = rw c.in-InCall.is c.write_text-in-InCall.ensures

pub returns-in-Idle : goal.returns-in-Idle
returns-in-Idle g c = rw c.in-Idle.is c.write_text-in-Idle.ensures

pub returns-in-By : goal.returns-in-By
returns-in-By g c = rw c.in-By.is (rw c.name.ensures at (rw c.as_bytes.ensures.value at c.write_text-in-By.ensures))
