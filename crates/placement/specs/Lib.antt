pub mod AnyPlaces
pub mod Cyclic
pub mod CyclicLaws
pub mod Elements
pub mod Listed
pub mod Part
pub mod Placement
pub mod PlacementLaws
