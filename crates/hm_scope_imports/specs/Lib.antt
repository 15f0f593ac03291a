pub mod Gathered
pub mod Selections
pub mod FaultyItems
pub mod Apart
