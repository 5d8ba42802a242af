pub mod Lookups
pub mod ShownLaws
pub mod Changes
pub mod SameImages
pub mod Places
pub mod SparePages
pub mod Groups
