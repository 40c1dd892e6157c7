pub mod AloneLemmas
pub mod BuildLemmas
pub mod ChangeLemmas
pub mod HeldLemmas
pub mod ZeroLemmas
