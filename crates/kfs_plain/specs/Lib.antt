pub mod Fault
pub mod Answers
pub mod Tables
pub mod Renaming
pub mod Plain
