pub mod Edited
pub mod Cursors
pub mod EditSteps
pub mod Candidates
pub mod Ranges
pub mod Worked
