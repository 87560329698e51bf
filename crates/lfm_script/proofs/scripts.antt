-- Lemmas of scripts: reading and spelling lines, and the commands of each worker.
pub mod Decoding
pub mod PerWorker
pub mod Plans
pub mod Spelled
