mod Shares
pub mod WorkedModules
