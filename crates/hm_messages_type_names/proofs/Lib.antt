pub mod WorkedTypeNames
