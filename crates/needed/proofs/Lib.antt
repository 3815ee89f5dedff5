pub mod Computing
pub mod Hypotheses
pub mod Whole
pub mod Rows
pub mod Witness
pub mod Asked
pub mod Needed
pub mod Swaps
