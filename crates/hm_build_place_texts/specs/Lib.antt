pub mod Facts
pub mod Prose
pub mod Objects
pub mod Formats
pub mod Worked
