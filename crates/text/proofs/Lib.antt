pub mod Places
pub mod Storing
pub mod Holding
pub mod Reading
