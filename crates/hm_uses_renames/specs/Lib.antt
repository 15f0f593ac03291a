pub mod Renames
pub mod Firsts
pub mod Senses
pub mod Texts
pub mod Cursors
pub mod Worked
