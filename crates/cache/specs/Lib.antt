pub mod Dcache
pub mod Packing
