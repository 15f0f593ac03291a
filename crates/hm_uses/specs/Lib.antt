pub mod Found
pub mod Mentions
pub mod Scopes
pub mod Uses
pub mod Worked
pub mod Laws
