pub mod Splitting
pub mod Whole
