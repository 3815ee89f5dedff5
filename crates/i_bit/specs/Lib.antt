pub mod BitI
pub mod PlainBitI
