pub mod WritingLemmas
pub mod RequestLemmas
pub mod PlanLemmas
pub mod EndingLemmas
pub mod TopLemmas
pub mod FormLemmas
