pub mod Copying
pub mod Joining
