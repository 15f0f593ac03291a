pub mod ExportedItems
pub mod ExportClashes
pub mod ListedExports
pub mod NamesOnce
