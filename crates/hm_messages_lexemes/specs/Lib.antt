pub mod Lexemes
pub mod Worked
