pub mod Sizes
pub mod Spelling
pub mod Packing
pub mod Reading
pub mod Borrowed
pub mod Finding
