pub mod Between
pub mod Explained
pub mod Verdicts
pub mod WorkedFixes
