pub mod StartLemmas
pub mod PartLemmas
pub mod PlanLemmas
pub mod RunLemmas
pub mod ViewLemmas
pub mod LoadLemmas
