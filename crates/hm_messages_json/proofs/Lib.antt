pub mod Joined
pub mod Floats
pub mod Edited
pub mod Worked
