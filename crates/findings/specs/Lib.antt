pub mod Values
pub mod Reportable
