pub mod Beginnings
pub mod Lawful
pub mod Adding
pub mod Showing
pub mod WorkedLists
