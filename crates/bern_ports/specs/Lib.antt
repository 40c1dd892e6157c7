pub mod Causes
pub mod Files
pub mod Frames
pub mod MemShelf
