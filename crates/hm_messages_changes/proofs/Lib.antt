pub mod Pieces
pub mod Spaces
