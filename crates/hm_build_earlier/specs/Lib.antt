pub mod Earlier
pub mod Known
pub mod Taking
pub mod Worked
