pub mod Fixes
pub mod Judged
pub mod Moves
pub mod Phases
pub mod Steps
pub mod Views
pub mod Worked
