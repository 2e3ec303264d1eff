pub mod Order
pub mod Ahead
pub mod Count
pub mod Hold
pub mod Takes
pub mod Oldest
pub mod Ageing
pub mod After
