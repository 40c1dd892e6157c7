pub mod AffineLemmas
pub mod ElementLemmas
pub mod RingLemmas
pub mod SumLemmas
pub mod ValuesLemmas
