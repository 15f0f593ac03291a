mod Sharing
pub mod WorkedHere
