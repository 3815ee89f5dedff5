pub mod Printed
pub mod Code
