pub mod FinishedBuilds
pub mod Journals
pub mod Laws
pub mod ReportBlocks
pub mod Rounds
pub mod Settling
pub mod Worked
