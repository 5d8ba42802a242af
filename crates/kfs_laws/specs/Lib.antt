pub mod Laws
pub mod Worlds
pub mod WholeCalls
pub mod Plain
