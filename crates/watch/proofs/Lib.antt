pub mod Setting
pub mod Sets
pub mod Steps
pub mod Asking
pub mod Feeding
pub mod Taking
pub mod Promised
