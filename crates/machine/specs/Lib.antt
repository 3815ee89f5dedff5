pub mod Machine
pub mod Scalars
pub mod Lists
pub mod Ready
