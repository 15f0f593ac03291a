pub mod Changed
pub mod Judged
pub mod Offers
pub mod Steps
pub mod Worked
