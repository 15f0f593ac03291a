pub mod Faults
pub mod JudgedUnits
pub mod SignedFaults
pub mod Told
pub mod UnitStarts
pub mod Imported
