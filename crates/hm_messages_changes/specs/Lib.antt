pub mod Blanks
pub mod Constructors
pub mod Exchanges
pub mod Holes
pub mod Insertions
pub mod Layouts
pub mod Probes
pub mod Wildcards
