pub mod Causes
pub mod Worked
