pub mod Written
pub mod Rounds
pub mod Paid
