pub mod Uses
pub mod Header
pub mod EndsAlike
pub mod Contracts
