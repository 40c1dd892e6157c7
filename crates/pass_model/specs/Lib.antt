pub mod Interior
pub mod Local
pub mod Needs
pub mod Sums
