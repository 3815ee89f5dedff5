pub mod State
pub mod Held
