pub mod AcceptedLaws
pub mod BoxLaws
pub mod Examples
