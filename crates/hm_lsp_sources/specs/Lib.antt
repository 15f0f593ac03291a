pub mod Names
pub mod Files
pub mod Following
pub mod Held
pub mod Steps
pub mod Worked
