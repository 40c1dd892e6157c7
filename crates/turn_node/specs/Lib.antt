pub mod Asks
pub mod Parts
pub mod Positions
pub mod Progresses
pub mod Drops
pub mod NodeStates
