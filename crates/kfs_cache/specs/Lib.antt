pub mod Knowing
pub mod Numbers
pub mod Parts
