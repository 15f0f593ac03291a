pub mod CoreNames
pub mod CoreTypes
pub mod Laws
pub mod Worked
