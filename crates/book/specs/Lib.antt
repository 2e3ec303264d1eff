pub mod Book
pub mod Calls
pub mod Runs
pub mod Promise
