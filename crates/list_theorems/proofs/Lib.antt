pub mod Spelt
pub mod Back
pub mod Lengths
pub mod Longest
pub mod Trip
