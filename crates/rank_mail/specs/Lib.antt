pub mod Hands
pub mod Lanes
pub mod Peers
pub mod Desks
pub mod Offices
pub mod Meetings
pub mod Examples
