pub mod Episodes
pub mod Meanings
pub mod Reach
pub mod ClockPairsMemoryLemmas
