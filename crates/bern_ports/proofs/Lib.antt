pub mod FrameLemmas
pub mod ShelfLemmas
