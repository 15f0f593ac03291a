pub mod Gathered
pub mod Knowing
pub mod Laws
pub mod Listings
pub mod Passes
pub mod Spending
pub mod Worked
