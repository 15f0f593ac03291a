pub mod Begins
pub mod Worked
