pub mod Batch
pub mod Code
