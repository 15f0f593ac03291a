pub mod Folding
pub mod NoFiniteType
pub mod WorkedShown
pub mod WorkedInstances
pub mod Differing
pub mod WorkedLetters
