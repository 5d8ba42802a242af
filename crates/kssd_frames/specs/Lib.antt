pub mod Merging
pub mod Shown
pub mod Same
pub mod Spare
pub mod Anchoring
pub mod Logging
pub mod Changing
