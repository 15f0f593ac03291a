pub mod Closing
pub mod Gather
pub mod Placed
pub mod DeclaredTypes
pub mod MostGeneral
pub mod Quantifying
