pub mod ListLemmas
pub mod PlaceLemmas
pub mod StoreLemmas
pub mod TurnLemmas
pub mod RunLemmas
