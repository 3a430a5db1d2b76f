pub mod Entries
pub mod Quick
pub mod QuickLists
