pub mod Renaming
pub mod Written
pub mod Tests
pub mod Fits
