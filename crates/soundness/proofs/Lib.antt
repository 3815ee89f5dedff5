pub mod Clauses
pub mod Lines
pub mod Twice
pub mod Tags
pub mod Keys
pub mod Slots
