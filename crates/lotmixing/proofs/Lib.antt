pub mod Exact
pub mod KeepingLaws
