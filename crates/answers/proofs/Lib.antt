pub mod States
pub mod Ranges
pub mod Told
