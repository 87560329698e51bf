pub mod Causes
pub mod Performs
pub mod ScriptRuns
pub mod Workers
pub mod Works
