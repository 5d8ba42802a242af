pub mod TakenOn
pub mod Sizes
pub mod Jobs
pub mod Beginning
pub mod Merely
pub mod Starts
pub mod Installable
pub mod Later
