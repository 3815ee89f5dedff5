pub mod Wholes
pub mod OneLine
pub mod OnePart
pub mod Parting
pub mod Bounds
