pub mod Given
pub mod Saying
