pub mod Same
pub mod Merge
pub mod Sides
pub mod Listed
pub mod Laws
