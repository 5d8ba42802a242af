pub mod Leaving
pub mod Allowed
pub mod Kept
pub mod Renaming
pub mod Placed
