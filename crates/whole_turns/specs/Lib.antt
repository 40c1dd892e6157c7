pub mod OneRank
pub mod Turns
