pub mod Generalisations
pub mod Escapes
pub mod Collected
pub mod Places
pub mod Generalised
