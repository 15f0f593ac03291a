pub mod Objects
pub mod Stating
pub mod TypeTexts
pub mod Worked
