pub mod ExportGroups
pub mod BarePairs
