pub mod Columns
pub mod Drawing
pub mod Escapes
pub mod Excerpts
pub mod Lines
pub mod Marks
pub mod Worked
