pub mod WorkedHidden
