pub mod AfterCalls
pub mod Numbering
pub mod Bounding
pub mod Space
pub mod Due
