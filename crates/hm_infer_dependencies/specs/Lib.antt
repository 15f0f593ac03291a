pub mod Numberings
pub mod References
pub mod Walks
pub mod Nodes
pub mod Groups
pub mod Checked
pub mod Members
pub mod GroupMembers
