pub use Rattle.format_model.specs.Content
pub use Rattle.format_model.specs.Grids
pub use Rattle.format_model.specs.Levels
pub use Rattle.format_model.specs.Trees
pub use Rattle.placement.specs.Placement
pub mod ViewLaws
pub mod Views
