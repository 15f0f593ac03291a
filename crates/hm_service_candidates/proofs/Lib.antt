pub mod Rising
pub mod Edits
pub mod Choosing
pub mod InRange
pub mod Made
pub mod WorkedCandidates
