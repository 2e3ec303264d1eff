pub mod Sound
pub mod Rows
pub mod Totals
pub mod Places
pub mod Built
pub mod Windows
