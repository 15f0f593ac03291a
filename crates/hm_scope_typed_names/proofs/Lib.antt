pub mod WorkedTypes
mod OneEntry
mod Growing
mod SeveralSchemes
