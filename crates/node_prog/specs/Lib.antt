pub mod Conditions
pub mod Dues
pub mod Homes
pub mod JobWays
pub mod Routed
pub mod Visiting
