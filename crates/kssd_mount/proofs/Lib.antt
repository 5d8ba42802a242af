pub mod Taking
pub mod Numbers
pub mod Opening
pub mod Settling
pub mod Failing
pub mod Sparing
