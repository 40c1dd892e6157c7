pub mod Changes
pub mod Dense
pub mod DenseLaws
pub mod ListLaws
pub mod Lists
