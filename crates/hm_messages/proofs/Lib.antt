pub mod AtPage
pub mod InOrder
pub mod Ways
mod Naming
pub mod OfSources
mod Sourced
mod Gathering
pub mod Grouping
mod InModules
pub mod WorkedFaults
pub mod WorkedMessages
pub mod WorkedPlaces
pub mod WorkedTexts
pub mod NearModules
