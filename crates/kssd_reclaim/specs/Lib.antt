pub mod Sources
pub mod Reclaim
pub mod Steps
