pub mod SameTable
pub mod Contracts
