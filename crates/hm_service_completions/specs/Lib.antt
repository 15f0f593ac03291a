pub mod Completions
pub mod Worked
