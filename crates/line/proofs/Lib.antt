pub mod Figures
pub mod Rests
