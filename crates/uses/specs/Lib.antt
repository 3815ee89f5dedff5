pub mod Uses
pub mod Header
pub mod Both
