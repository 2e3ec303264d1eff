pub mod Refusals
pub mod Keeping
pub mod Made
pub mod Replies
pub mod Promised
pub mod Stays
