pub mod Examples
pub mod LocalLemmas
pub mod SetLemmas
pub mod StoredLemmas
pub mod ValueLemmas
pub mod ViewLemmas
