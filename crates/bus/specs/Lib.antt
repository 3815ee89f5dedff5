pub mod Physical
pub mod Reader
