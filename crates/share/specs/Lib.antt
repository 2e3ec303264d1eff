pub mod Ticks
pub mod Replies
pub mod Times
