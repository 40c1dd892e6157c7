pub mod HomeSums
pub mod ShowLemmas
pub mod TurnLemmas
