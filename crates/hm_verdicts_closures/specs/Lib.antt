pub mod Closures
pub mod Worked
