pub mod FitLemmas
pub mod InsideLemmas
pub mod ViewLemmas
