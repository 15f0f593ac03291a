mod Chosen
pub mod Classes
mod Referred
mod Sought
pub mod WorkedNames
