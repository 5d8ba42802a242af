pub mod Entries
pub mod Touching
pub mod Fitting
pub mod Faults
