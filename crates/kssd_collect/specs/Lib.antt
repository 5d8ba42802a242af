pub mod Costs
pub mod Copied
pub mod Moved
pub mod Collecting
pub mod Due
pub mod Placing
