pub mod Packing
pub mod Laws
pub mod Covered
pub mod Places
pub mod Keyed
pub mod Words
