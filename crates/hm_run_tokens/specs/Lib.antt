pub mod Parts
pub mod Depths
pub mod Worked
