mod Errors
mod Held
mod Named
mod Refusing
mod Replacing
mod Spelled
pub mod WorkedPrepared
pub mod WorkedRenames
