pub mod Bits
pub mod WeighingLaws
