pub mod Standing
pub mod LeftOut
pub mod Laws
pub mod Steps
pub mod Worked
pub mod HeldSets
