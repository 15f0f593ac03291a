pub mod ModuleVerdicts
