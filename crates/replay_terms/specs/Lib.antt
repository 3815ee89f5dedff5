pub mod Uses
pub mod Printed
