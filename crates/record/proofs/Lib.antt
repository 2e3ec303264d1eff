pub mod Cars
pub mod Orders
pub mod Replies
