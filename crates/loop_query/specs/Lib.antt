pub mod ActivityLaws
pub mod AnswerLaws
pub mod PlanLaws
pub mod TermLaws
