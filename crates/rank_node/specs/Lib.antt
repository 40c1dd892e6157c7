pub mod Jobs
pub mod Letters
pub mod Holdings
pub mod NodeStates
pub mod Positions
pub mod Sets
pub mod Sums
pub mod Waits
