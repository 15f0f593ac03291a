pub mod Having
pub mod SettledSets
