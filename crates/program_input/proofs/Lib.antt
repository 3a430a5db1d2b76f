pub mod Beginning
pub mod Texts
