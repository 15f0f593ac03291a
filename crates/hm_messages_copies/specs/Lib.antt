pub mod Changes
pub mod Data
pub mod Worked
