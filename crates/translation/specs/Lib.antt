pub mod Alignment
pub mod Translation
pub mod Faults
pub mod Ranges
