pub mod Stacks
pub mod Tabled
