pub mod Each
pub mod Growing
pub mod WorkedSets
pub mod WorkedStandIns
