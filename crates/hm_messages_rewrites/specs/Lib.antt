pub mod Rewrites
pub mod Names
pub mod Tokens
pub mod Worked
