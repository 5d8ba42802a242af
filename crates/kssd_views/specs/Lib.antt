pub mod Seen
pub mod Listing
