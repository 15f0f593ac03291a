pub mod SetNames
pub mod References
pub mod Laws
pub mod Worked
