pub mod Frames
pub mod Headers
pub mod Looking
pub mod Pending
pub mod Worked
