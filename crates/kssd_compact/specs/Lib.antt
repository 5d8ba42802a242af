pub mod Starting
pub mod Inputs
pub mod Source
pub mod Feeding
pub mod Job
pub mod Laws
pub mod Steps
pub mod Finishing
