pub mod DealLemmas
pub mod HeldLemmas
pub mod PlaceLemmas
pub mod RowLemmas
