pub mod Blame
pub mod Tables
pub mod Strict
pub mod Reporting
pub mod JournalLines
pub mod RoundSteps
pub mod WorkedRecords
