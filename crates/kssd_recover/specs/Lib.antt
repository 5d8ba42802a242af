pub mod Anchor
pub mod Faults
pub mod Formatting
pub mod Log
pub mod Walk
pub mod Limits
pub mod Parts
