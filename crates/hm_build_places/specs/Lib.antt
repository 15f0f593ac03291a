pub mod Known
pub mod TypesAt
pub mod Typed
pub mod Answers
pub mod Views
pub mod Worked
pub mod Laws
