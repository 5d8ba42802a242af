pub mod Filling
pub mod Loop
pub mod Again
pub mod Spelled
pub mod Found
