pub mod Lines
pub mod RefusedFloats
pub mod Worked
