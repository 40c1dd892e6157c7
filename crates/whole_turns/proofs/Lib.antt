pub mod PlaceLemmas
pub mod ShowLemmas
pub mod TurnLemmas
