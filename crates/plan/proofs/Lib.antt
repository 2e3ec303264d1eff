pub mod Below
pub mod Found
pub mod Earlier
pub mod Timed
pub mod Cut
