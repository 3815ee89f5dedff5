pub mod Replay
pub mod Parts
pub mod Code
