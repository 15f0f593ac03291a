pub mod Published
pub mod Replied
pub mod Served
pub mod Second
pub mod Servers
pub mod Steps
pub mod Taken
pub mod Worked
