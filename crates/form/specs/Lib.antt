pub mod Texts
pub mod Form
pub mod Code
