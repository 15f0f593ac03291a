pub mod Steps
pub mod Entries
pub mod Exported
pub mod Listed
pub mod Named
pub mod Whole
