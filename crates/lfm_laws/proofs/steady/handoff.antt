-- The posted handoff: posting it, taking it, and the seats that then read something new.
pub mod Handing
pub mod Handoffs
pub mod Posting
pub mod Released
pub mod WonHandoff
