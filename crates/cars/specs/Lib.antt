pub mod Cars
pub mod Moves
pub mod Refusals
