-- Scripts of workers as text, and the commands of each worker.
pub mod Limits
pub mod Grammar
pub mod Spelling
pub mod Commands
