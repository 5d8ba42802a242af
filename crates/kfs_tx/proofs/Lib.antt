pub mod Alone
pub mod Seeing
pub mod Falling
pub mod Causes
pub mod Opening
