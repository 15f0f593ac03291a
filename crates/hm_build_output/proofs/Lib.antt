pub mod FinishedRuns
pub mod Further
pub mod HeldRuns
pub mod OneRun
pub mod Telling
