-- The laws of one state.
pub mod CountLaws
pub mod Owning
pub mod RangesRead
pub mod Sleepers
pub mod StateLaws
pub mod WonPosts
