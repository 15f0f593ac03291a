pub mod SameVariables
pub mod Pushed
pub mod Identifiers
