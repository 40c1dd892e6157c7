pub use Rattle.format_model.specs.Checks
pub use Rattle.format_model.specs.Estimates
pub mod Admitted
pub mod AnyStores
pub mod Builds
pub mod Orders
pub mod FileRules
