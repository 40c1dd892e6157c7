pub mod CountLemmas
pub mod KeptLemmas
pub mod LetterLemmas
pub mod MailLemmas
pub mod NodeLemmas
pub mod PositionLemmas
pub mod ProgressLemmas
