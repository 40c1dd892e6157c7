pub mod EventLemmas
pub mod WorldLemmas
pub mod TwoRanksLemmas
