pub mod Uses
pub mod Weight
pub mod Answers
pub mod FileOrder
pub mod Serving
pub mod Laws
pub mod PlaceLists
pub mod RowOrders
