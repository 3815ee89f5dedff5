pub mod Longest
pub mod Good
pub mod Texts
pub mod Stops
pub mod Enough
pub mod Contracts
