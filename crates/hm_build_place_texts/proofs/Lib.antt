mod Floats
pub mod WorkedTexts
