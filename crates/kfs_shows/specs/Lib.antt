pub mod Shows
pub mod Laws
pub mod Named
pub mod Sweeping
