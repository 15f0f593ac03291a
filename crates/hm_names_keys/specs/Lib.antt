pub mod Variables
pub mod Keys
pub mod Hashed
