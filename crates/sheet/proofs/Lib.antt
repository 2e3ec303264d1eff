pub mod Kept
pub mod Lowest
pub mod Gathered
pub mod Spaces
pub mod Numbers
pub mod Collected
