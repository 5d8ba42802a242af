pub mod Bearing
pub mod Staying
pub mod Changing
pub mod BesideValues
pub mod OneProof
