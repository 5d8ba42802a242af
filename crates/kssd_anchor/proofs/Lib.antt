pub mod Many
pub mod PageMaking
pub mod Placing
pub mod Costs
