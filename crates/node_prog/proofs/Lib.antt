pub mod DueLemmas
pub mod HomeLemmas
pub mod SubscriptLemmas
pub mod WayLemmas
pub mod StageLemmas
pub mod CourseLemmas
pub mod Examples
