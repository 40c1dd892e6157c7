pub mod AdmittedLemmas
pub mod BuildLemmas
pub mod MarkLemmas
pub mod OrderLemmas
pub mod ReachLemmas
