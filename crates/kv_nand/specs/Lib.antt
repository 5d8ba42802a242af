pub mod Faults
pub mod Flash
pub mod Calls
pub mod Planned
pub mod Working
