pub mod Tx
pub mod Codes
