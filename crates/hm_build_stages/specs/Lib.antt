pub mod Errors
pub mod Rooms
