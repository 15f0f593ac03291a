mod Firsts
mod Targets
mod Marked
mod LeftOutMarks
pub mod Lawful
pub mod Parts
pub mod Numbers
mod WorkedSources
