pub mod Collecting
pub mod Holding
pub mod Stepping
