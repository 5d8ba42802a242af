pub mod Collections
pub mod Standing
pub mod Marking
pub mod Beside
pub mod Keeping
