pub mod EntryLaws
pub mod Steps
pub mod Settled
pub mod Ascending
pub mod ListsSettled
