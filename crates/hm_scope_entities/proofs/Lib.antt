pub mod EntityTables
pub mod FirstDescriptions
pub mod OwnerTables
