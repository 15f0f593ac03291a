pub mod Down
pub mod Faults
pub mod Headers
mod Interfaces
pub mod Rows
pub mod Up
pub mod Uses
