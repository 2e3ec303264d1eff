pub mod Places
pub mod Moves
