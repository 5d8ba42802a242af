pub mod Chaining
pub mod Reading
