pub mod Alike
mod Pairs
mod Replaced
pub mod WorkedRenames
