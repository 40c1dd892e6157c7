pub mod DenseLemmas
pub mod Describing
pub mod Examples
pub mod ListBuilding
pub mod ListLemmas
