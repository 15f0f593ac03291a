mod AllFound
mod Clashes
mod Complete
pub mod Existence
mod Faults
mod Others
mod Rows
mod Senses
mod Sound
mod Written
