pub mod Chosen
pub mod Found
pub mod Listed
pub mod Located
pub mod Offered
pub mod Referred
pub mod Requests
mod CompletionValues
mod DeclaredValues
mod Matching
mod FolderSymbols
mod Refusals
mod NameStarts
mod RenameEdits
mod Walked
mod WorkedCompletions
mod WorkedResults
