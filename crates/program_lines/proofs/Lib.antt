pub mod LineLaws
pub mod SameLaws
