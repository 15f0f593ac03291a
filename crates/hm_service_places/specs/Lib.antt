pub mod Names
pub mod Diagnostics
pub mod Places
pub mod Spelling
