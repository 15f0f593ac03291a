mod MeantOnce
mod ScopeMeanings
pub mod WorkedNames
