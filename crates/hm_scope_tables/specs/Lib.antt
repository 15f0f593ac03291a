pub mod Hashed
pub mod Tables
pub mod Meanings
pub mod NameSets
pub mod KnownTables
