pub mod Edits
pub mod Signatures
pub mod Spans
pub mod Viewed
pub mod Worked
