pub mod States
pub mod Marks
pub mod Places
pub mod Blocks
pub mod Pages
pub mod Changes
