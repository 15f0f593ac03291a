pub mod Falls
pub mod SameRows
