pub mod BuildTexts
pub mod Checks
pub mod FurtherStated
pub mod JournalledRuns
pub mod Outputs
