pub mod UnitFaults
