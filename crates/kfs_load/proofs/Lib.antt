pub mod Steps
pub mod LineLaws
pub mod Twins
pub mod Going
pub mod Counting
pub mod Named
