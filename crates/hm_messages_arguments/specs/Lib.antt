pub mod Applied
pub mod Counts
pub mod WorkedArguments
