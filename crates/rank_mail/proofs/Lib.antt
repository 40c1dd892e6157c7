pub mod BoxLemmas
pub mod ListLemmas
pub mod MeetLemmas
pub mod CarryLemmas
pub mod EndLemmas
pub mod ExampleLemmas
