pub mod Counting
pub mod Reads
pub mod Sources
pub mod Watching
pub mod Worked
pub mod Writes
