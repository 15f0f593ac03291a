pub mod Brackets
pub mod Tokens
