pub mod Patterns
pub mod TypesHere
pub mod Worked
