pub mod Places
pub mod Declarations
pub mod Worked
