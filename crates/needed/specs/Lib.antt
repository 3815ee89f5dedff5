pub mod Calls
pub mod Witness
pub mod Asked
pub mod Needed
pub mod Swaps
