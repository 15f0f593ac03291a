pub mod ExportItems
pub mod ExportedRows
pub mod ModuleExports
