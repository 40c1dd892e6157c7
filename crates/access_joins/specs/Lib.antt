pub mod Cursors
pub use Rattle.format_model.specs.Content
pub use Rattle.format_model.specs.Grids
pub use Rattle.format_model.specs.Levels
pub use Rattle.format_model.specs.Trees
