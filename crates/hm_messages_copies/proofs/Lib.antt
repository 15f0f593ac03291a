pub mod WorkedChanges
