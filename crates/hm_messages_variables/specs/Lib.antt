pub mod InScope
pub mod LikeTypes
pub mod Worked
