pub mod Accepted
pub mod Elements
pub mod Nests
pub mod Points
pub mod References
pub mod Runnable
pub mod State
pub mod Values
