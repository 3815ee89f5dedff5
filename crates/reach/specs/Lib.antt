pub mod Reach
pub mod Code
