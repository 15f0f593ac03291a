pub mod FirstTables
pub mod BoundNames
pub mod EntriesMade
pub mod SoundCores
mod OwnEntries
