pub mod Changes
pub mod Declarations
pub mod Exported
pub mod LeftOut
pub mod Missing
pub mod Worked
