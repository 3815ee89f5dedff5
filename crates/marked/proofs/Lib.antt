pub mod Computing
pub mod MarkedCases
