pub mod Numbered
pub mod Texts
