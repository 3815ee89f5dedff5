pub mod Longest
pub mod Texts
pub mod Stops
