pub mod Faults
pub mod Steps
pub mod Taking
pub mod Turns
pub mod Worked
