pub mod CountedParts
pub mod Worked
