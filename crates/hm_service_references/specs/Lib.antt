pub mod Names
pub mod Imported
pub mod Views
pub mod Worked
