pub mod Folds
pub mod Calls
