pub mod SetsText
