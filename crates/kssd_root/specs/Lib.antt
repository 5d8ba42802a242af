pub mod Standing
pub mod Mapping
pub mod Costs
pub mod Following
pub mod UnderWay
