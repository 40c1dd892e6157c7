pub mod EventLemmas
pub mod WorldLemmas
