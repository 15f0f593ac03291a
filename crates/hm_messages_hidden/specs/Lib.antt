pub mod Hidden
pub mod WorkedHidden
