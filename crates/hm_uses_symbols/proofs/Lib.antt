mod FirstPlaces
mod Listed
mod Opened
pub mod WorkedSymbols
