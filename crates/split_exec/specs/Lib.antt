pub mod Applying
pub mod Boxes
pub mod Hits
pub mod Passing
pub mod Recalling
pub mod Recorded
pub mod Runs
pub mod Settings
