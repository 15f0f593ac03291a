pub mod Frames
pub mod Worked
