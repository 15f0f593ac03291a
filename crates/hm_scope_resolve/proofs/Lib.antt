pub mod Walks
pub mod NamesTwice
pub mod Clauses
pub mod FaultLists
pub mod Leaves
pub mod DepthTables
pub mod Expanded
