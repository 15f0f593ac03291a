pub mod Adding
pub mod Lookups
