pub mod Items
pub mod OneLines
pub mod Seams
pub mod Joins
pub mod BracketDepths
pub mod Lines
pub mod WorkedParts
