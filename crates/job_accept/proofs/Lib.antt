pub mod AmongLemmas
pub mod ReadableLemmas
pub mod AnswerLemmas
pub mod OffsetLemmas
pub mod JobLemmas
pub mod FormatLemmas
pub mod AxisLemmas
pub mod VariableLemmas
