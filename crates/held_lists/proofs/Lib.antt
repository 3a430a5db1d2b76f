pub mod Stored
pub mod InOrder
pub mod Meeting
pub mod Blocks
