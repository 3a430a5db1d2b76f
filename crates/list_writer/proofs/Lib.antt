pub mod Lines
pub mod Ordered
pub mod ListLength
