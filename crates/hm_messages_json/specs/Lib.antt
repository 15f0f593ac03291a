pub mod Edits
pub mod Objects
pub mod Positions
pub mod Worked
