pub mod Outliving
pub mod Records
