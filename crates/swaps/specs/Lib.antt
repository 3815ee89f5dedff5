pub mod Swaps
pub mod Code
