mod Looked
pub mod SkippedModules
mod Parts
pub mod WorkedPlaces
mod TypesFound
