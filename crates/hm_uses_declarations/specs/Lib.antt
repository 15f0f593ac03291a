pub mod Bindings
pub mod Candidates
pub mod Senses
pub mod Walking
