pub mod Changing
pub mod Counting
