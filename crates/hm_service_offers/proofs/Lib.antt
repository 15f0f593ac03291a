pub mod Shown
pub mod WorkedOffers
