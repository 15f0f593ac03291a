pub mod Publications
pub mod Rules
pub mod Worked
