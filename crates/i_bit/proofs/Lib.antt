pub mod ControlBits
pub mod Tests
pub mod Accesses
pub mod Cp15
pub mod BitI
pub mod PlainBitI
