pub mod Changes
pub mod Cursors
pub mod Lines
pub mod Positions
pub mod Starts
pub mod Units
pub mod Worked
