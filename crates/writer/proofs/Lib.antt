pub mod Sized
pub mod Counting
pub mod Lengths
pub mod Ascending
pub mod Whole
pub mod DigitsLeft
