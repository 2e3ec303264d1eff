-- The definitions that the contracts of the line cite. Assumes nothing.
pub mod Rest
pub mod Lines
pub mod Texts
