pub mod Loads
pub mod Code
