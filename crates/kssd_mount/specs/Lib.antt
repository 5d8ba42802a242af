pub mod Mounting
pub mod Taken
