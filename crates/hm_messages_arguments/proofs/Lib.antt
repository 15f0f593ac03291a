pub mod AppliedLists
pub mod Counting
pub mod WorkedArguments
