pub mod Runs
pub mod Cutting
