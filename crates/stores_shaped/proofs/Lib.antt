pub mod ArrangeLemmas
pub mod CountLemmas
pub mod CrossingLemmas
pub mod DealLemmas
pub mod DiagonalLemmas
pub mod JaggedLemmas
pub mod OrderLemmas
pub mod PermutedLemmas
