pub mod ReadUp
pub mod Runs
pub mod Transferring
mod WorkedDevices
