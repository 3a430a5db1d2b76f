pub mod Lines
pub mod Printing
