pub mod Activity
pub mod Answers
pub mod Plans
pub mod Queries
pub mod Terms
