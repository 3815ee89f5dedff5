pub mod Store
pub mod Read
pub mod Code
