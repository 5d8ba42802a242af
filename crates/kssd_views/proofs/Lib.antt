pub mod Single
pub mod Prefixes
pub mod Pairing
pub mod Pairs
