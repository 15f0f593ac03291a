pub mod Joints
pub mod Worked
