pub mod Meets
pub mod Start
pub mod Call
pub mod Run
pub mod Code
