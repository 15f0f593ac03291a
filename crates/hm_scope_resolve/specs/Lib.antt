pub mod OpenBindings
pub mod Depths
