pub mod Tlb
pub mod Packing
pub mod Keyed
