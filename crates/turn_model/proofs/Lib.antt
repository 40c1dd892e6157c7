pub mod DueLemmas
pub mod Examples
