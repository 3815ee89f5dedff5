pub mod Fields
pub mod Text
pub mod Code
