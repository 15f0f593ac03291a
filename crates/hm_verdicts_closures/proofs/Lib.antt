pub mod SameStatus
pub mod WorkedClosures
