pub mod Crossing
mod Looked
mod Naming
pub mod WorkedNames
