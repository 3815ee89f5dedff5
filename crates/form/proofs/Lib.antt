pub mod Plain
pub mod Sizes
pub mod Reading
pub mod Putting
pub mod Ending
pub mod Numerals
pub mod Back
pub mod Lawful
