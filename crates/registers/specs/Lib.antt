pub mod Pairs
pub mod Registers
