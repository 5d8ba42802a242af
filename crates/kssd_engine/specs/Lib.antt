pub mod Keeping
pub mod Plans
pub mod Bounds
pub mod Space
