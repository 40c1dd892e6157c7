pub mod TwoRanks
pub mod Worlds
