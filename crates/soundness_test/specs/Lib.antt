pub mod Meaning
pub mod Formed
