pub mod Begun
pub mod OneReply
pub mod Publishing
pub mod Serving
pub mod Stepping
pub mod Told
pub mod WorkedReplies
pub mod WorkedSources
