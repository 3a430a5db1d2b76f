pub mod Sound
pub mod Reported
