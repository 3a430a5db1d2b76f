pub mod Spelling
pub mod Lengths
