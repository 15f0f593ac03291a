pub mod Selectors
pub mod BareSets
pub mod ExportSelections
