pub mod Sums
pub mod Bests
