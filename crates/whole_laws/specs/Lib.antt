pub mod HeldArrays
pub mod HeldLaws
pub mod Alone
