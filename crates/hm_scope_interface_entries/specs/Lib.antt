pub mod KnownExports
pub mod ExportedEntries
