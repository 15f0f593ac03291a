pub mod Meant
pub mod Worked
