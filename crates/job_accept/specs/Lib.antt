pub mod Axes
pub mod Front
pub mod Offsets
pub mod Places
pub mod Variables
