pub mod Readied
pub mod Lent
pub mod Exact
