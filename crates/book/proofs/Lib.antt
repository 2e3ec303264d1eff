pub mod Spoken
pub mod After
pub mod Right
