pub mod Held
pub mod Code
