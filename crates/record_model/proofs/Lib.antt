pub mod Examples
pub mod OutlivingLemmas
