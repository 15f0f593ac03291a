pub mod Declaring
pub mod Floats
pub mod Worked
