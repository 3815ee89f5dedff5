pub mod StateRefusals
pub mod Ready
pub mod SoundKept
pub mod Runs
