pub mod SourceModules
pub mod SetSymbols
pub mod SourceSymbols
pub mod Worked
