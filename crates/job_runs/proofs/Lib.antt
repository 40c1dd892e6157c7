pub mod DueLemmas
pub mod PrintLemmas
