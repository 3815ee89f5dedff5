pub mod Lines
pub mod Parse
pub mod Code
