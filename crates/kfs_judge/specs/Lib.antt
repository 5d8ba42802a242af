pub mod Judged
pub mod Judging
pub mod Reaching
pub mod Rows
pub mod Tables
