pub use Rattle.format_model.specs.Grids
pub use Rattle.format_model.specs.Trees
pub use Rattle.local_views.specs.Views
pub use Rattle.plan_courses.specs.JobCourses
pub mod PartViews
pub mod SetViews
