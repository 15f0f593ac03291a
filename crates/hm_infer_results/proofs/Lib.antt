pub mod FaultyGroups
pub mod SchemesPut
