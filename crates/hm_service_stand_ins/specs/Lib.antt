pub mod Findings
pub mod GoodTexts
pub mod StandIns
pub mod Missed
pub mod Worked
