pub mod Ladder
pub mod Tree
pub mod Desk
pub mod Step
pub mod Change
pub mod Life
pub mod Rows
