pub mod Symbols
pub mod Pending
pub mod Seen
pub mod Worked
