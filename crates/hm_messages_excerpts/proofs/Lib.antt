pub mod Appending
pub mod Around
pub mod Counting
pub mod Escaping
pub mod Places
pub mod Plain
mod WorkedPlaces
