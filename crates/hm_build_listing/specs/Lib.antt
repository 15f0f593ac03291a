pub mod Listed
pub mod Listings
pub mod Refusals
pub mod Worked
