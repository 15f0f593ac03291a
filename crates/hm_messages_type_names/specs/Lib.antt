pub mod TypeNames
pub mod WorkedTypeNames
