pub mod Laws
pub mod Bytes
pub mod Widths
pub mod Signs
