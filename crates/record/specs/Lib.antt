pub mod Cars
pub mod Layout
pub mod Replies
pub mod Shown
