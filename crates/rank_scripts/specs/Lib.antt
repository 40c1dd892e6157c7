pub mod Acts
pub mod Ranks
pub mod Scripts
pub mod Nodes
pub mod Worlds
pub mod Rounds
pub mod Orders
pub mod Examples
