pub mod Fitting
pub mod Ending
pub mod Entering
pub mod Telling
