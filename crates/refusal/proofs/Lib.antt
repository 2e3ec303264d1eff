pub mod Held
pub mod Firsts
