pub mod Beginnings
pub mod Keeping
